-- What the reader says of a line alone, and which fault of a text it tells.
use Rattle.std.proofs.Common.{◌≡◌, inl, inr, ◌+◌, ◌==◌, ℕ, Bool, true, false, not, List, [], ◌∷◌, ◌++◌, Some, None, Ok, Err, refl, ap, sym, ◌∙◌, subst, if◌then◌else◌, ◌-◌, ◌≤◌, length, take, append_assoc, append-nil, length-append, arith}
use Rattle.pool_config.specs.Bytes.{AllOf, lines, onto, front, behind}
use Rattle.pool_config.specs.Form.{Spelling, IsEnd}
use Rattle.pool_config.specs.Value.{value_of}
use Rattle.pool_config.specs.Table.{kind_of, takes}
use Rattle.pool_config.specs.Names.{parameter_named}
use Rattle.pool_config.specs.Settings.{Sets, HasUnknownName, AsksOtherMode, HasFault, Say, FirstFault}
use Rattle.pool_config.specs.Configuration.{Says}
use Rattle.pool_config.specs.Reader.{assignment, form_at}
use Rattle.pool_config.specs.declared.line.Class.TheVariants.{InLine}
use Rattle.pool_config.specs.declared.parameter.Parameter.{Parameter}
use Rattle.pool_config.specs.declared.parameter.Parameter.TheVariants.{ClusteringMode}
use Rattle.pool_config.specs.declared.value.Value.{Value}
use Rattle.pool_config.specs.declared.value.Value.TheVariants.{Text}
use Rattle.pool_config.specs.declared.assemble.Setting.{Setting}
use Rattle.pool_config.specs.declared.config.Config.{Config}
use Rattle.pool_config.specs.declared.fault.ConfigFault.{ConfigFault}
use Rattle.pool_config.specs.declared.fault.ConfigFault.TheVariants.{BadLine, UnknownName, WrongMode, Missing, NoMemory}
use Rattle.pool_config.proofs.Runs.{run_parts, run_all, front_taken}
use Rattle.pool_config.proofs.Grammar.{assignment_read, end_form}
use Rattle.pool_advice.specs.Faults.{Adds, fault_by, IsGood, IsFaultOf, IsRefusedBy, AreFaults, Begins}
use Rattle.pool_advice.specs.declared.fault.LineFault.{LineFault}
use Rattle.pool_advice.specs.declared.fault.Refusal.TheVariants as refusals

-- ---- a line alone

not_false : (t : Bool) → not t ≡ true → t ≡ false
not_false true e = absurd (cc)
not_false false e = refl

line_alone : (line : List ℕ) → AllOf InLine line → lines line ≡ line ∷ []
line_alone [] h = refl
line_alone (x ∷ line) h =
    ap (λ (t : Bool). if t then [] ∷ lines line else onto x (lines line)) (not_false (x == 10) h.0) ∙ ap (onto x) (line_alone line h.1)

good_said : (line : List ℕ) (said : List Setting) → Say (line ∷ []) said → IsGood line
good_said line [] h = inl h.0
good_said line (s ∷ said) (inl h) = inl h.0
good_said line (s ∷ said) (inr h) = inr (s, h.0)

good_alone : (line : List ℕ) (said : List Setting) → AllOf InLine line → Say (lines line) said → IsGood line
good_alone line said one h = good_said line said (subst (λ (ls : List (List ℕ)). Say ls said) (line_alone line one) h)

pub config_good : (line : List ℕ) (config : Config) → AllOf InLine line → Says line (Ok config) → IsGood line
config_good line config one h = good_alone line h.said one h.lines_say

pub missing_good : (line name : List ℕ) → AllOf InLine line → Says line (Err (Missing name)) → IsGood line
missing_good line name one h = good_alone line h.said one h.lines_say

has_first : (line : List ℕ) (fault : ConfigFault) → FirstFault 1 (line ∷ []) fault → HasFault 1 line fault
has_first line fault (inl h) = h
has_first line fault (inr h) = absurd (h.1)

has_alone : (line : List ℕ) (fault : ConfigFault) → AllOf InLine line → FirstFault 1 (lines line) fault → HasFault 1 line fault
has_alone line fault one h = has_first line fault (subst (λ (ls : List (List ℕ)). FirstFault 1 ls fault) (line_alone line one) h)

pub bad_told : (k : ℕ) (fault : ConfigFault) (line : List ℕ) → AllOf InLine line → fault ≡ BadLine k → Says line (Err fault)
    → IsRefusedBy line refusals.Bad
bad_told k fault line one is h =
    let said : Says line (Err (BadLine k)) = subst (λ (f : ConfigFault). Says line (Err f)) is h in λ n. (refl, (has_alone line (BadLine k) one said).1)

pub unknown_told : (k : ℕ) (fault : ConfigFault) (line : List ℕ) → AllOf InLine line → fault ≡ UnknownName k → Says line (Err fault)
    → IsRefusedBy line refusals.UnknownName
unknown_told k fault line one is h =
    let said : Says line (Err (UnknownName k)) = subst (λ (f : ConfigFault). Says line (Err f)) is h in λ n. (refl, (has_alone line (UnknownName k) one said).1)

pub mode_told : (k : ℕ) (fault : ConfigFault) (line : List ℕ) → AllOf InLine line → fault ≡ WrongMode k → Says line (Err fault)
    → IsRefusedBy line refusals.WrongMode
mode_told k fault line one is h =
    let said : Says line (Err (WrongMode k)) = subst (λ (f : ConfigFault). Says line (Err f)) is h in λ n. (refl, (has_alone line (WrongMode k) one said).1)

-- ---- one line more

good_more : (n : ℕ) (line : List ℕ) (rest : List (List ℕ)) (more : List LineFault) → IsGood line → AreFaults (n + 1) rest more → AreFaults n (line ∷ rest) more
good_more n line rest [] good h = (good, h)
good_more n line rest (fault ∷ more) good h = inl (good, h)

-- with the faults of what is left these are those of all
abbrev pub So : ℕ → List ℕ → List (List ℕ) → List LineFault → Type 0
So n text left faults = (more : List LineFault) → AreFaults n left more → AreFaults 1 (lines text) (faults ++ more)

pub goes_on : (n : ℕ) (text line : List ℕ) (left rest : List (List ℕ)) (old new : List LineFault) → So n text left old → left ≡ line ∷ rest
    → Adds n line old new → So (n + 1) text rest new
goes_on n text line left rest old new so cut (inl good) = λ more h.
    subst (λ (fs : List LineFault). AreFaults 1 (lines text) (fs ++ more)) (sym good.1)
    (so more (subst (λ (ls : List (List ℕ)). AreFaults n ls more) (sym cut) (good_more n line rest more good.0 h)))
goes_on n text line left rest old new so cut (inr bad) = λ more h.
    let with_it : AreFaults n left (bad.0 ∷ more) = subst (λ (ls : List (List ℕ)). AreFaults n ls (bad.0 ∷ more)) (sym cut) (inr (bad.1, h)) in
    let same : new ++ more ≡ old ++ bad.0 ∷ more = ap (λ (fs : List LineFault). fs ++ more) bad.2 ∙ append_assoc old (bad.0 ∷ []) more in
    subst (AreFaults 1 (lines text)) (sym same) (so (bad.0 ∷ more) with_it)

pub ends_so : (n : ℕ) (text line : List ℕ) (left : List (List ℕ)) (old new : List LineFault) → So n text left old → left ≡ line ∷ []
    → Adds n line old new → AreFaults 1 (lines text) new
ends_so n text line left old new so cut adds =
    subst (AreFaults 1 (lines text)) (append-nil new) (goes_on n text line left [] old new so cut adds [] refl)

-- ---- the first line of a text

pub line_is : (bytes line rest : List ℕ) → line ≡ take (length bytes - length rest) bytes → rest ≡ behind InLine bytes → line ≡ front InLine bytes
line_is bytes line rest e f = e ∙ (ap (λ (r : List ℕ). take (length bytes - length r) bytes) f ∙ front_taken InLine bytes)

pub line_one : (bytes line : List ℕ) → line ≡ front InLine bytes → AllOf InLine line
line_one bytes line e = subst (AllOf InLine) (sym e) (run_all InLine bytes)

pub line_short : (bytes line : List ℕ) → line ≡ front InLine bytes → length line ≤ length bytes
line_short bytes line e =
    let same = ap length e in
    let parts = sym (length-append (front InLine bytes) (behind InLine bytes)) ∙ ap length (run_parts InLine bytes) in omega arith

-- ---- a line has one fault, and none where it is good

same_form : (line name other_name : List ℕ) (w v : Spelling) → form_at line ≡ assignment name w → form_at line ≡ assignment other_name v
    → (name ≡ other_name) × (w ≡ v)
same_form line name other_name w v e f =
    let g : assignment name w ≡ assignment other_name v = sym e ∙ f in
    let p : name ≡ other_name = cc in
    let q : w ≡ v = cc in (p, q)

unknown_not_known : (line : List ℕ) (name : List ℕ) (w : Spelling) (p : Parameter) → form_at line ≡ assignment name w → parameter_named name ≡ Some p
    → HasUnknownName line → ⊥
unknown_not_known line name w p e known h =
    let same = same_form line name h.name w h.value e (assignment_read line h.name h.value h.form) in
    let none : parameter_named name ≡ None = ap parameter_named same.0 ∙ h.unknown in
    absurd (cc)

unknown_no_end : (line : List ℕ) → HasUnknownName line → IsEnd line → ⊥
unknown_no_end line h e =
    let a = assignment_read line h.name h.value h.form in
    let b = end_form line e in absurd (cc)

mode_no_end : (line : List ℕ) → AsksOtherMode line → IsEnd line → ⊥
mode_no_end line h e =
    let a = assignment_read line h.name h.value h.form in
    let b = end_form line e in absurd (cc)

mode_not_set : (line : List ℕ) (s : Setting) → AsksOtherMode line → Sets line s → ⊥
mode_not_set line s h sets =
    let same = same_form line h.name sets.name h.value sets.value
    (assignment_read line h.name h.value h.form) (assignment_read line sets.name sets.value sets.form) in
    let named : Some ClusteringMode ≡ Some s.parameter = sym h.known ∙ (ap parameter_named same.0 ∙ sets.known) in
    let valued : Some (Text h.mode) ≡ Some s.value = sym h.means ∙ (ap value_of same.1 ∙ sets.means) in
    let p : ClusteringMode ≡ s.parameter = cc in
    let v : Text h.mode ≡ s.value = cc in
    let taken : takes (kind_of ClusteringMode) (Text h.mode) ≡ true =
    ap (λ (x : Value). takes (kind_of ClusteringMode) x) v ∙ (ap (λ (q : Parameter). takes (kind_of q) s.value) p ∙ sets.taken) in
    let other = h.other in absurd (cc)

good_no_fault : (n : ℕ) (line : List ℕ) (fault : ConfigFault) → IsGood line → HasFault n line fault → ⊥
good_no_fault n line (BadLine k) (inl e) h = h.1.not_empty e
good_no_fault n line (BadLine k) (inr s) h = h.1.sets_nothing s.0 s.1
good_no_fault n line (UnknownName k) (inl e) h = unknown_no_end line h.1 e
good_no_fault n line (UnknownName k) (inr s) h =
    unknown_not_known line s.1.name s.1.value s.0.parameter (assignment_read line s.1.name s.1.value s.1.form) s.1.known h.1
good_no_fault n line (WrongMode k) (inl e) h = mode_no_end line h.1 e
good_no_fault n line (WrongMode k) (inr s) h = mode_not_set line s.0 h.1 s.1
good_no_fault n line (Missing name) good h = h
good_no_fault n line NoMemory good h = h

one_fault : (n : ℕ) (line : List ℕ) (f g : ConfigFault) → HasFault n line f → HasFault n line g → f ≡ g
one_fault n line (BadLine j) (BadLine k) h i = ap BadLine (h.0 ∙ sym i.0)
one_fault n line (BadLine j) (UnknownName k) h i = absurd (h.1.not_unknown i.1)
one_fault n line (BadLine j) (WrongMode k) h i = absurd (h.1.not_mode i.1)
one_fault n line (UnknownName j) (BadLine k) h i = absurd (i.1.not_unknown h.1)
one_fault n line (UnknownName j) (UnknownName k) h i = ap UnknownName (h.0 ∙ sym i.0)
one_fault n line (UnknownName j) (WrongMode k) h i =
    absurd (unknown_not_known line i.1.name i.1.value ClusteringMode (assignment_read line i.1.name i.1.value i.1.form) i.1.known h.1)
one_fault n line (WrongMode j) (BadLine k) h i = absurd (i.1.not_mode h.1)
one_fault n line (WrongMode j) (UnknownName k) h i =
    absurd (unknown_not_known line h.1.name h.1.value ClusteringMode (assignment_read line h.1.name h.1.value h.1.form) h.1.known i.1)
one_fault n line (WrongMode j) (WrongMode k) h i = ap WrongMode (h.0 ∙ sym i.0)
one_fault n line (Missing name) g h i = absurd (h)
one_fault n line NoMemory g h i = absurd (h)
one_fault n line f (Missing name) h i = absurd (i)
one_fault n line f NoMemory h i = absurd (i)

begins : (n : ℕ) (line : List ℕ) (told : LineFault) (more : List LineFault) (fault : ConfigFault) → IsFaultOf n line told → HasFault n line fault
    → Begins (told ∷ more) fault
begins n line told more fault is h =
    one_fault n line fault (fault_by n told.refusal) h is.has ∙ ap (λ (k : ℕ). fault_by k told.refusal) (sym is.numbered)

pub first_told : (n : ℕ) (ls : List (List ℕ)) (faults : List LineFault) (fault : ConfigFault) → AreFaults n ls faults → FirstFault n ls fault → Begins faults fault
first_told n [] faults fault h first = absurd (first)
first_told n (line ∷ rest) [] fault h (inl has) = absurd (good_no_fault n line fault h.0 has)
first_told n (line ∷ rest) [] fault h (inr first) = first_told (n + 1) rest [] fault h.1 first.1
first_told n (line ∷ rest) (told ∷ more) fault (inl h) (inl has) = absurd (good_no_fault n line fault h.0 has)
first_told n (line ∷ rest) (told ∷ more) fault (inl h) (inr first) = first_told (n + 1) rest (told ∷ more) fault h.1 first.1
first_told n (line ∷ rest) (told ∷ more) fault (inr h) (inl has) = begins n line told more fault h.0 has
first_told n (line ∷ rest) (told ∷ more) fault (inr h) (inr first) = absurd (good_no_fault n line (fault_by n told.refusal) first.0 h.0.has)
