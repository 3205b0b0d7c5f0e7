use Rattle.std.proofs.Common.{rules, ◌≡◌, ◌∷◌, ◌++◌, ap, sym, ◌∙◌}
use Rattle.std.specs.Prelude.{string_bytes}
use Rattle.std.specs.List.{flat_map}
use Rattle.sql_print.specs.Spelling.{inside}
use Rattle.sql_print.proofs.QuoteLemmas.{cut_at, lacks_at, glued}
use Rattle.sql_print.proofs.quoting.push_inside.Goals as goal

pub loop-front-preserved : goal.loop-front-preserved
loop-front-preserved c =
    let q = c.args.quote in
    let known : flat_map (inside q) c.loop-front.rest.now
    ≡ c.in-Some.front.now ++ (q ∷ q ∷ flat_map (inside q) c.in-Some.back.now)
    = cut_at q c.requires c.loop-front.rest.now c.in-Some.front c.in-Some.back c.in-Some.ensures.cases in (
      search rules,
      glued _ _ _ _ _ _ _ _ _ q c.in_ok-push_str.ensures.bytes c.in_ok-push.ensures.bytes c.in_ok-push-2.ensures.bytes
          (c.push.ensures.ascii c.requires) known c.loop-front.invariant.1,
    )

pub returns : goal.returns
returns c =
    let q = c.args.quote in
    let known : flat_map (inside q) c.loop-front.rest.now ≡ c.loop-front.rest.now
    = lacks_at q c.requires c.loop-front.rest.now c.split_once.result c.split_once.ensures.cases c.in_default.not-Some in
    c.in_ok-push_str-2.ensures.bytes ∙ ap (λ xs. string_bytes c.loop-front.onto ++ xs) (sym known) ∙ c.loop-front.invariant.1
