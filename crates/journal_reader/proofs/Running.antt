-- What the front of a journal leads to goes on with its next line.
use Rattle.std.proofs.Common.{◌≡◌, ◌+◌, ◌<◌, ℕ, suc, List, [], ◌∷◌, ◌++◌, length, refl, sym, ap, ◌∙◌, subst, arith, length-append}
use Rattle.std.proofs.lemmas.List.{append_assoc}
use Rattle.schema.specs.declared.catalogue.TableDef.{TableDef}
use Rattle.schema.specs.Allowed.{AreAllowed}
use Rattle.one_copy_model.specs.declared.event.Event.{Event}
use Rattle.one_copy_model.specs.World.{World, after, after_all, MayHappen, IsSchedule}
use Rattle.world_program.specs.declared.replaying.Start.{Start}
use Rattle.world_program.specs.Alike.{tidy, AreAlike}
use Rattle.world_program.specs.Starting.{start_of}
use Rattle.world_program.specs.UnderWay.{IsFit}
use Rattle.world_program.proofs.Alike.{may_alike, after_alike}
use Rattle.world_program.proofs.OneStore.{of_one_store}
use Rattle.world_program.proofs.Playing.{fit_first, fit_all, fit_alike}
use Rattle.play_laws.specs.Lines.{line_of, lines_of}
use Rattle.play_laws.specs.Runs.{IsRunOf, IsRunOfOneStore, Leads}

schedule_snoc : (w : World) (es : List Event) (e : Event) → IsSchedule w es → MayHappen (after_all w es) e → IsSchedule w (es ++ e ∷ [])
schedule_snoc w [] e s may = (may, tt)
schedule_snoc w (x ∷ xs) e s may = (s.0, schedule_snoc (after w x) xs e s.1 may)

after_snoc : (w : World) (es : List Event) (e : Event) → after_all w (es ++ e ∷ []) ≡ after (after_all w es) e
after_snoc w [] e = refl
after_snoc w (x ∷ xs) e = after_snoc (after w x) xs e

lines_snoc : (tables : List TableDef) (es : List Event) (e : Event) (left : List ℕ) → lines_of tables (es ++ e ∷ []) ++ left ≡ lines_of tables es ++ (line_of tables e ++ left)
lines_snoc tables [] e left = append_assoc (line_of tables e) [] left
lines_snoc tables (x ∷ xs) e left =
    append_assoc (line_of tables x) (lines_of tables (xs ++ e ∷ [])) left
    ∙ (ap (λ (rest : List ℕ). line_of tables x ++ rest) (lines_snoc tables xs e left)
    ∙ sym (append_assoc (line_of tables x) (lines_of tables xs) (line_of tables e ++ left)))

-- the lines so far are those of a schedule that leads to that world, and these are left
pub record IsFrontOf (start : Start) (lines left : List ℕ) (n : ℕ) (w : World) : Type 0 where
  pub events : List Event
  pub schedule : IsSchedule (start_of start) events
  pub printed : lines_of start.catalogue events ++ left ≡ lines
  pub count : length events ≡ n
  pub alike : AreAlike w (after_all (start_of start) events)

pub first_front : (start : Start) (lines : List ℕ) (w : World) → w ≡ start_of start → IsFrontOf start lines lines 0 w
first_front start lines w is = record { events = []; schedule = tt; printed = refl; count = refl; alike = ap tidy is }

pub front_is_fit : (start : Start) (lines left : List ℕ) (n : ℕ) (w : World) → IsFrontOf start lines left n w → IsFit w
front_is_fit start lines left n w front =
    fit_alike w (after_all (start_of start) front.events) front.alike
    (fit_all (start_of start) front.events (fit_first start.catalogue start.policy start.attached) front.schedule)

front_goes_on : (start : Start) (lines left line more : List ℕ) (n : ℕ) (w next : World) (e : Event) → IsFrontOf start lines left n w → left ≡ line ++ more → line_of start.catalogue e ≡ line
    → MayHappen w e → AreAlike next (after w e) → IsFrontOf start lines more (n + 1) next
front_goes_on start lines left line more n w next e front cut is may alike = record {
  events = front.events ++ e ∷ [];
  schedule = schedule_snoc (start_of start) front.events e front.schedule (may_alike w (after_all (start_of start) front.events) e front.alike may);
  printed =
      lines_snoc start.catalogue front.events e more
      ∙ (ap (λ (l : List ℕ). lines_of start.catalogue front.events ++ (l ++ more)) is
      ∙ (ap (λ (l : List ℕ). lines_of start.catalogue front.events ++ l) (sym cut) ∙ front.printed));
  count = length-append front.events (e ∷ []) ∙ (let count = front.count in let k : length front.events + 1 ≡ n + 1 = omega (arith, count) in k);
  alike =
      alike ∙ (after_alike w (after_all (start_of start) front.events) e front.alike ∙ ap tidy (sym (after_snoc (start_of start) front.events e)));
}

pub front_leads : (start : Start) (lines left line more : List ℕ) (n : ℕ) (w next : World) → IsFrontOf start lines left n w → left ≡ line ++ more → Leads start.catalogue w line next
    → IsFrontOf start lines more (n + 1) next
front_leads start lines left line more n w next front cut leads =
    front_goes_on start lines left line more n w next leads.event front cut leads.printed leads.may leads.alike

pub front_is_run : (start : Start) (lines left : List ℕ) (n : ℕ) (w : World) → left ≡ [] → IsFrontOf start lines left n w → IsRunOf start lines n
front_is_run start lines left n w none front = record {
  events = front.events;
  schedule = front.schedule;
  printed = sym (append-empty (lines_of start.catalogue front.events)) ∙ (ap (λ (l : List ℕ). lines_of start.catalogue front.events ++ l) (sym none) ∙ front.printed);
  count = front.count;
}
  where
    append-empty : (xs : List ℕ) → xs ++ [] ≡ xs
    append-empty [] = refl
    append-empty (x ∷ xs) = ap (λ (ys : List ℕ). x ∷ ys) (append-empty xs)

pub none_left : (xs : List ℕ) → length xs ≡ 0 → xs ≡ []
none_left [] e = refl
none_left (x ∷ xs) e = absurd (let n : suc (length xs) ≡ 0 = e in omega (arith, n))

pub front_of_one_store : (start : Start) (lines left : List ℕ) (n : ℕ) (w : World) → AreAllowed start.catalogue → start.attached.bits < 256 → left ≡ [] → IsFrontOf start lines left n w
    → IsRunOfOneStore start lines n
unfolding front_is_run
front_of_one_store start lines left n w allowed few none front = record {
  run = front_is_run start lines left n w none front;
  one_store = of_one_store start front.events allowed few front.schedule;
}
