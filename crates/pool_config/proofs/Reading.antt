-- From the lines of a text to its answer.
use Rattle.std.proofs.Common.{◌≡◌, ◌+◌, ℕ, Bool, true, false, List, [], ◌∷◌, Option, Some, None, Result, Ok, Err, refl, ap, sym, subst, if◌then◌else◌}
use Rattle.pool_config.specs.Bytes.{lines}
use Rattle.pool_config.specs.Form.{Spelling}
use Rattle.pool_config.specs.Value.{value_of}
use Rattle.pool_config.specs.Table.{kind_of, takes}
use Rattle.pool_config.specs.Names.{parameter_named}
use Rattle.pool_config.specs.Taken.{AllTaken}
use Rattle.pool_config.specs.Configuration.{missing_of}
use Rattle.pool_config.specs.Reader.{Gives, FailsBy, Form, empty, assignment, other, form_at, refused, set_by, set_of, assigned, setting_in, setting_at, joined, read_lines, unless_missing, assembled, answer_of}
use Rattle.pool_config.specs.declared.parameter.Parameter.{Parameter}
use Rattle.pool_config.specs.declared.value.Value.{Value}
use Rattle.pool_config.specs.declared.assemble.Setting.{Setting}
use Rattle.pool_config.specs.declared.fault.ConfigFault.{ConfigFault}
use Rattle.pool_config.specs.declared.fault.ConfigFault.TheVariants.{BadLine, UnknownName, WrongMode, Missing, NoMemory}

fails_up : (fault : ConfigFault) (r : Result (List Setting) ConfigFault) → FailsBy fault r → FailsBy fault (assembled r)
fails_up NoMemory r h = tt
fails_up (BadLine n) r h = ap assembled h
fails_up (UnknownName n) r h = ap assembled h
fails_up (WrongMode n) r h = ap assembled h
fails_up (Missing name) r h = ap assembled h

pub answer_fails : (text : List ℕ) (fault : ConfigFault) → FailsBy fault (read_lines 1 (lines text)) → FailsBy fault (answer_of text)
unfolding answer_of
answer_fails text fault h = fails_up fault (read_lines 1 (lines text)) h

pub answer_is : (text : List ℕ) (said : List Setting) → read_lines 1 (lines text) ≡ Ok said → answer_of text ≡ unless_missing (missing_of said) said
unfolding answer_of
answer_is text said h = ap assembled h

-- a setting that is read is of a value that its parameter takes
set_taken : (n : ℕ) (p : Parameter) (v : Value) (t : Bool) → takes (kind_of p) v ≡ t → (s : Setting)
    → set_of (if t then Ok (record { parameter = p; value = v }) else Err (refused n p v)) ≡ Ok (Some s) → takes (kind_of s.parameter) s.value ≡ true
set_taken n p v true e s h =
    let same : record { parameter = p; value = v } ≡ s = cc in
    subst (λ (x : Setting). takes (kind_of x.parameter) x.value ≡ true) same e
set_taken n p v false e s h = absurd (cc)

assigned_taken : (n : ℕ) (p : Option Parameter) (v : Option Value) (s : Setting)
    → (q : Parameter) → set_of (set_by n q v) ≡ Ok (Some s) → takes (kind_of s.parameter) s.value ≡ true
assigned_taken n p None s q h = absurd (cc)
assigned_taken n p (Some v) s q h = set_taken n q v (takes (kind_of q) v) refl s h

named_taken : (n : ℕ) (p : Option Parameter) (w : Spelling) (s : Setting) → assigned n p w ≡ Ok (Some s) → takes (kind_of s.parameter) s.value ≡ true
named_taken n None w s h = absurd (cc)
named_taken n (Some p) w s h = assigned_taken n (Some p) (value_of w) s p h

form_taken : (n : ℕ) (f : Form) (s : Setting) → setting_in n f ≡ Ok (Some s) → takes (kind_of s.parameter) s.value ≡ true
form_taken n empty s h = absurd (cc)
form_taken n other s h = absurd (cc)
form_taken n (assignment name w) s h = named_taken n (parameter_named name) w s h

joined_taken : (first : Result (Option Setting) ConfigFault) (rest : Result (List Setting) ConfigFault) (said : List Setting)
    → ((s : Setting) → first ≡ Ok (Some s) → takes (kind_of s.parameter) s.value ≡ true)
    → ((more : List Setting) → rest ≡ Ok more → AllTaken more)
    → joined first rest ≡ Ok said → AllTaken said
joined_taken (Err f) rest said one more h = absurd (cc)
joined_taken (Ok None) rest said one more h = more said h
joined_taken (Ok (Some s)) (Err f) said one more h = absurd (cc)
joined_taken (Ok (Some s)) (Ok after) said one more h =
    let same : (s ∷ after) ≡ said = cc in
    subst AllTaken same (one s refl, more after refl)

pub read_taken : (n : ℕ) (ls : List (List ℕ)) (said : List Setting) → read_lines n ls ≡ Ok said → AllTaken said
read_taken n [] said h = let same : [] ≡ said = cc in subst AllTaken same tt
read_taken n (line ∷ rest) said h =
    joined_taken (setting_at n line) (read_lines (n + 1) rest) said (λ s e. form_taken n (form_at line) s e) (λ more e. read_taken (n + 1) rest more e) h

-- a call that hands a fault on
pub fails_again : {Y : Type 0} (r : Result Y ConfigFault) (fault : ConfigFault) (read : Result Y ConfigFault) → r ≡ Err fault → FailsBy fault read → Gives r read
fails_again {Y} r fault read e h = subst (λ (x : Result Y ConfigFault). Gives x read) (sym e) h
