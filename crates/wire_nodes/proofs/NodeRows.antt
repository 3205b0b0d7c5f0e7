-- One backend's row more.
use Rattle.std.proofs.Common.{◌≡◌, ℕ, suc, ◌<◌, ◌+◌, List, ◌∷◌, ◌++◌, Option, length, drop, get_or, sym, ap, subst, refl, ◌∙◌, append_assoc, drop-cons, add-one}
use Rattle.pool_base.specs.declared.backend_id.BackendId.{BackendId}
use Rattle.pool_config.specs.declared.config.Node.{Node}
use Rattle.wire_nodes.specs.Nodes.{AreNodeRows, IsNodeRow}

pub rows_step : (attached : ℕ) (lowest : Option BackendId) (nodes : List Node) (i : ℕ) (node : Node) (made one : List ℕ)
    → i < length nodes → node ≡ get_or nodes i node → IsNodeRow attached lowest i node one
    → ((more : List ℕ) → AreNodeRows attached lowest i (drop i nodes) more → AreNodeRows attached lowest 0 nodes (made ++ more))
    → (more : List ℕ) → AreNodeRows attached lowest (i + 1) (drop (i + 1) nodes) more → AreNodeRows attached lowest 0 nodes ((made ++ one) ++ more)
rows_step attached lowest nodes i node made one below is own so_far more rest =
    let cons : drop i nodes ≡ node ∷ drop (i + 1) nodes =
    drop-cons nodes i node below ∙ ap (λ (x : Node). x ∷ drop (suc i) nodes) (sym is) ∙ ap (λ (n : ℕ). node ∷ drop n nodes) (sym (add-one i)) in
    let both : AreNodeRows attached lowest i (drop i nodes) (one ++ more) = subst (λ (xs : List Node). AreNodeRows attached lowest i xs (one ++ more)) (sym cons) (one, more, own, rest, refl) in
    subst (λ (xs : List ℕ). AreNodeRows attached lowest 0 nodes xs) (sym (append_assoc made one more)) (so_far (one ++ more) both)
