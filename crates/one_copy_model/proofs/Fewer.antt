-- Where fewer are attached, what holds of a session holds on.
use Rattle.std.proofs.Common.{◌≡◌, ℕ, Bool, true, false, List, refl, sym, ◌∙◌, inl, inr}
use Rattle.std.specs.Prelude.{Option}
use Rattle.pool_base.specs.Sets.{has}
use Rattle.schema.specs.declared.catalogue.TableDef.{TableDef}
use Rattle.backend_trait.specs.declared.answer.Answer.{Answer}
use Rattle.backend_trait.specs.Store.{Store}
use Rattle.session_orders.specs.declared.outcome.Outcome.{Outcome}
use Rattle.session_machine.specs.declared.machine.Machine.{Machine}
use Rattle.session_machine.specs.declared.machine.Stage.{Stage}
use Rattle.one_copy_model.specs.declared.deed.Entry.{Entry}
use Rattle.one_copy_model.specs.Tracking.{Told}
use Rattle.one_copy_model.specs.Chains.{IsInOrder}
use Rattle.one_copy_model.specs.Own.{IsIn, Own, IsPools, pools_moment, pools_counts, pools_backends, pools_refusal, pools_nodes, IsRightBy}

none_is : (b : Bool) → (b ≡ true → ⊥) → b ≡ false
none_is true h = absurd (h refl)
none_is false h = refl

module _ (tables : List TableDef) (attached fewer : ℕ) (less : (b : ℕ) → IsIn fewer b → IsIn attached b) where
  fewer_pools : (m : Machine) (told : Told) (live : Bool) (outcome : Outcome) → IsPools attached m told live outcome → IsPools fewer m told live outcome
  fewer_pools m told live outcome (pools_moment a c d) = pools_moment a c d
  fewer_pools m told live outcome (pools_counts a c d) = pools_counts a c d
  fewer_pools m told live outcome (pools_backends a c d) = pools_backends (λ b below. none_is (has fewer b) (λ e. let n : false ≡ true = sym (a b below) ∙ less b e in cc)) c d
  fewer_pools m told live outcome (pools_refusal code name a c d) = pools_refusal code name a c d
  fewer_pools m told live outcome (pools_nodes a d) = pools_nodes a d

  pub fewer_right : (m : Machine) (live : Bool) (s : ℕ) (history : List Entry) (told : Told) (outcome : Outcome) → IsRightBy attached m live s history told outcome → IsRightBy fewer m live s history told outcome
  fewer_right m live s history told outcome (inl given) = inl given
  fewer_right m live s history told outcome (inr own) = inr (fewer_pools m told live outcome own)

  pub fewer_order : (m : Machine) (stage : Stage) → IsInOrder attached m stage → IsInOrder fewer m stage
  fewer_order m stage h = record { rising = h.rising; above = h.above; below = λ b c up at under told. h.below b c up (less b at) under told; one = h.one }

  pub fewer_own : (history : List Entry) (here : ℕ → Store) (m : Machine) (mail : ℕ → Option Answer) (told : Option Told) (done : ℕ → Bool) (live : Bool) (s : ℕ)
      → Own tables attached history here m mail told done live s → Own tables fewer history here m mail told done live s
  fewer_own history here m mail told done live s h = record {
    stranger = h.stranger;
    inside = h.inside;
    classed = h.classed;
    asked = h.asked;
    untold = h.untold;
    answer = h.answer;
    in_order = λ stage at. fewer_order m stage (h.in_order stage at);
    heard = λ b stage answer at. h.heard b stage answer (less b at);
    parting = λ stage best own among more at. let p = h.parting stage best own among more at in record {
      fewer = λ b in_it. p.fewer b (less b in_it);
      parted = λ b answer in_it. p.parted b answer (less b in_it);
      whole = λ no result b in_it. p.whole no result b (less b in_it);
      drawn = λ work posted draws b in_it. p.drawn work posted draws b (less b in_it);
      form = p.form;
    };
    causes = h.causes;
    stands = λ b at. h.stands b (less b at);
    crossed = λ b p q at. h.crossed b p q (less b at);
    unchanged = h.unchanged;
    closes = λ b l at. h.closes b l (less b at);
    reasons = λ stage by code at is says. h.reasons stage by code at is (elim says [ inl x ↦ inl (x.0, less x.0 x.1, x.2) | inr kept ↦ inr (kept.0, (kept.1.0, less kept.1.0 kept.1.1)) ]);
    posts = h.posts;
    replies = λ by outcome is reply. fewer_right m live s history by outcome (h.replies by outcome is reply);
    orders = h.orders;
    order_is = h.order_is;
    since = h.since;
    commits = λ b by at. h.commits b by (less b at);
    done_first = λ b by is entered at. h.done_first b by is entered (less b at);
  }
