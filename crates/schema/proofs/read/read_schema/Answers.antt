use Rattle.std.proofs.Common.{◌≡◌, ℕ, ◌-◌, List, length, Ok, Err, sym, ap, subst, ◌∙◌}
use Rattle.sql_tokens.specs.declared.token.Placed.{Placed}
use Rattle.sql_tokens.specs.Tokens.{TokensOf}
use Rattle.schema.specs.declared.catalogue.TableDef.{TableDef}
use Rattle.schema.specs.declared.fault.Refusal.{Refusal}
use Rattle.schema.specs.declared.fault.Refusal.TheVariants as refusal
use Rattle.schema.specs.Reading.{as_text, line_of, Says, tokens_of, IsRead, AreTables, IsRefusal}
use Rattle.schema.proofs.Whole.{says, only_tables, faulty_at, faulty_end}
use Rattle.schema.proofs.read.read_schema.Goals as goal

pub returns-in-Ok-clause-found : goal.returns-in-Ok-clause-found
returns-in-Ok-clause-found c =
    let e : c.as_str.result.now ≡ as_text c.args.text.now = c.as_str.ensures ∙ c.in_ok-text.ensures.text in
    subst (λ (tables : List TableDef). Says c.args.text.now tables) (sym c.new.ensures)
    (says c.args.text.now c.in_ok-tokens.tokens c.in-Ok.tables
    (subst (λ (x : List ℕ). TokensOf x c.in_ok-tokens.tokens) e c.in_ok-tokens.ensures.found)
    (subst (λ (x : List Placed). IsRead (tokens_of x) c.in-Ok.tables) c.as_slice.ensures c.in-Ok.ensures.found))

pub returns-in-Ok-clause-only : goal.returns-in-Ok-clause-only
returns-in-Ok-clause-only c = λ tables s.
    let e : c.as_str.result.now ≡ as_text c.args.text.now = c.as_str.ensures ∙ c.in_ok-text.ensures.text in
    c.new.ensures ∙ only_tables c.args.text.now c.in_ok-tokens.tokens (Ok c.in-Ok.tables)
    (λ ts h. c.in_ok-tokens.ensures.only ts (subst (λ (x : List ℕ). TokensOf x ts) (sym e) h))
    (λ tb r. c.in-Ok.ensures.only tb (subst (λ (x : List Placed). IsRead (tokens_of x) tb) (sym c.as_slice.ensures) r))
    tables s

pub returns-in-Err-At-clause-only : goal.returns-in-Err-At-clause-only
returns-in-Err-At-clause-only c = λ tables s.
    let e : c.as_str.result.now ≡ as_text c.args.text.now = c.as_str.ensures ∙ c.in_ok-text.ensures.text in
    only_tables c.args.text.now c.in_ok-tokens.tokens (Err (refusal.At c.in-Err-At.place))
    (λ ts h. c.in_ok-tokens.ensures.only ts (subst (λ (x : List ℕ). TokensOf x ts) (sym e) h))
    (λ tb r. subst (λ (f : Refusal). AreTables tb (Err f)) c.in-Err-At.field-0-is (c.in-Err-At.ensures.only tb (subst (λ (x : List Placed). IsRead (tokens_of x) tb) (sym c.as_slice.ensures) r)))
    tables s

pub returns-in-Err-At-clause-bad : goal.returns-in-Err-At-clause-bad
returns-in-Err-At-clause-bad c = λ line q.
    let e : c.as_str.result.now ≡ as_text c.args.text.now = c.as_str.ensures ∙ c.in_ok-text.ensures.text in
    let text : c.as_bytes.result.now ≡ as_text c.args.text.now = c.as_bytes.ensures ∙ c.in_ok-text.ensures.text in
    let at : c.line_of-line.result ≡ line_of (as_text c.args.text.now) c.in-Err-At.place = c.line_of-line.ensures ∙ ap (λ (x : List ℕ). line_of x c.in-Err-At.place) text in
    let same : c.line_of-line.result ≡ line = cc in
    faulty_at c.args.text.now c.in_ok-tokens.tokens c.in-Err-At.place line
    (subst (λ (x : List ℕ). TokensOf x c.in_ok-tokens.tokens) e c.in_ok-tokens.ensures.found)
    (subst (λ (x : List Placed). IsRefusal x (Err (refusal.At c.in-Err-At.place))) c.as_slice.ensures
    (subst (λ (f : Refusal). IsRefusal c.as_slice.result.now (Err f)) c.in-Err-At.field-0-is c.in-Err-At.ensures.refused))
    (sym same ∙ at)

pub returns-in-Err-AtEnd-clause-only : goal.returns-in-Err-AtEnd-clause-only
returns-in-Err-AtEnd-clause-only c = λ tables s.
    let e : c.as_str.result.now ≡ as_text c.args.text.now = c.as_str.ensures ∙ c.in_ok-text.ensures.text in
    only_tables c.args.text.now c.in_ok-tokens.tokens (Err refusal.AtEnd)
    (λ ts h. c.in_ok-tokens.ensures.only ts (subst (λ (x : List ℕ). TokensOf x ts) (sym e) h))
    (λ tb r. subst (λ (f : Refusal). AreTables tb (Err f)) c.in-Err-AtEnd.field-0-is (c.in-Err-AtEnd.ensures.only tb (subst (λ (x : List Placed). IsRead (tokens_of x) tb) (sym c.as_slice.ensures) r)))
    tables s

pub returns-in-Err-AtEnd-clause-bad : goal.returns-in-Err-AtEnd-clause-bad
returns-in-Err-AtEnd-clause-bad c = λ line q.
    let e : c.as_str.result.now ≡ as_text c.args.text.now = c.as_str.ensures ∙ c.in_ok-text.ensures.text in
    let text : c.as_bytes-in-Err-AtEnd.result.now ≡ as_text c.args.text.now = c.as_bytes-in-Err-AtEnd.ensures ∙ c.in_ok-text.ensures.text in
    let last : c.saturating_sub.result ≡ length (as_text c.args.text.now) - 1 = c.saturating_sub.ensures ∙ ap (λ (n : ℕ). n - 1) (c.len.ensures ∙ ap length c.in_ok-text.ensures.text) in
    let at : c.line_of-line-in-Err-AtEnd.result ≡ line_of (as_text c.args.text.now) (length (as_text c.args.text.now) - 1) = c.line_of-line-in-Err-AtEnd.ensures ∙ ap (λ (x : List ℕ). line_of x c.saturating_sub.result) text ∙ ap (line_of (as_text c.args.text.now)) last in
    let same : c.line_of-line-in-Err-AtEnd.result ≡ line = cc in
    let refused = subst (λ (x : List Placed). IsRefusal x (Err refusal.AtEnd)) c.as_slice.ensures
    (subst (λ (f : Refusal). IsRefusal c.as_slice.result.now (Err f)) c.in-Err-AtEnd.field-0-is c.in-Err-AtEnd.ensures.refused) in
    faulty_end c.args.text.now c.in_ok-tokens.tokens line
    (subst (λ (x : List ℕ). TokensOf x c.in_ok-tokens.tokens) e c.in_ok-tokens.ensures.found)
    refused.0 refused.1 (sym same ∙ at)
