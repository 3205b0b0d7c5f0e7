use Rattle.std.proofs.Common.{List, ℕ, ◌++◌, map, subst, sym, ap, ◌∙◌}
use Rattle.std.specs.Str.{IsUtf8}
use Rattle.schema.specs.Reading.{plain_byte}
use Rattle.schema.proofs.Texts.{is_text}
use Rattle.schema.proofs.text.mended.Goals as goal

pub valid_text-requires : goal.valid_text-requires
valid_text-requires c =
    subst IsUtf8 (sym (c.in_ok-push_plain.ensures ∙ ap (λ (x : List ℕ). x ++ map plain_byte c.args.rest.now) c.in_ok-made.ensures.items))
    (is_text c.args.front.now c.args.rest.now c.requires)
