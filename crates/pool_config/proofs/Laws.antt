-- Reading finds just what the grammar says: of a line, of lines, of a text.
use Rattle.std.proofs.Common.{◌≡◌, ◌⊎◌, inl, inr, ◌+◌, ℕ, Bool, true, false, List, [], ◌∷◌, Option, Some, None, Result, Ok, Err, refl, ap, sym, ◌∙◌, subst, if◌then◌else◌, option_map}
use Rattle.pool_config.specs.Bytes.{lines}
use Rattle.pool_config.specs.Form.{Spelling, IsEnd, IsAssignment}
use Rattle.pool_config.specs.Value.{value_of}
use Rattle.pool_config.specs.Table.{kind_of, takes, name_of}
use Rattle.pool_config.specs.Names.{parameter_named}
use Rattle.pool_config.specs.Settings.{Sets, HasUnknownName, AsksOtherMode, IsBad, HasFault, Say, FirstFault}
use Rattle.pool_config.specs.Configuration.{missing_of, IsConfiguration, IsFault, Says, IsAnswer}
use Rattle.pool_config.specs.Reader.{Form, empty, assignment, other, form_at, refused, set_by, set_of, assigned, setting_in, setting_at, joined, read_lines, unless_missing, assembled, answer_of, Gives}
use Rattle.pool_config.specs.declared.parameter.Parameter.{Parameter}
use Rattle.pool_config.specs.declared.parameter.Parameter.TheVariants.{ClusteringMode, Hostname, BackendPort, Weight, ListenAddresses, Port, Children, LoadBalance, StatementBalance, InsertLock, StopOnMismatch, FailoverOnMismatch, ServerTimeout, AuthenticationTimeout, ClientIdleLimit, LogConnections, LogDisconnections, ScramUser, ScramVerifier, BackendPassword}
use Rattle.pool_config.specs.declared.value.Value.{Value}
use Rattle.pool_config.specs.declared.value.Value.TheVariants.{Text, Number, Truth}
use Rattle.pool_config.specs.declared.assemble.Setting.{Setting}
use Rattle.pool_config.specs.declared.config.Config.{Config}
use Rattle.pool_config.specs.declared.fault.ConfigFault.{ConfigFault}
use Rattle.pool_config.specs.declared.fault.ConfigFault.TheVariants.{BadLine, UnknownName, WrongMode, Missing, NoMemory}
use Rattle.pool_config.proofs.Grammar.{assignment_read, end_form, form_is, empty_is}

-- ---- what the grammar says of a line is read

end_read : (n : ℕ) (line : List ℕ) → IsEnd line → setting_at n line ≡ Ok None
end_read n line h = ap (setting_in n) (end_form line h)

sets_read : (n : ℕ) (line : List ℕ) (s : Setting) → Sets line s → setting_at n line ≡ Ok (Some s)
sets_read n line s h =
    ap (setting_in n) (assignment_read line h.name h.value h.form)
    ∙ (ap (λ (p : Option Parameter). assigned n p h.value) h.known
    ∙ (ap (λ (v : Option Value). set_of (set_by n s.parameter v)) h.means
    ∙ ap (λ (t : Bool). set_of (if t then Ok s else Err (refused n s.parameter s.value))) h.taken))

unknown_read : (n : ℕ) (line : List ℕ) → HasUnknownName line → setting_at n line ≡ Err (UnknownName n)
unknown_read n line h =
    ap (setting_in n) (assignment_read line h.name h.value h.form) ∙ ap (λ (p : Option Parameter). assigned n p h.value) h.unknown

mode_setting : List ℕ → Setting
mode_setting mode = record { parameter = ClusteringMode; value = Text mode }

mode_read : (n : ℕ) (line : List ℕ) → AsksOtherMode line → setting_at n line ≡ Err (WrongMode n)
unfolding mode_setting
mode_read n line h =
    ap (setting_in n) (assignment_read line h.name h.value h.form)
    ∙ (ap (λ (p : Option Parameter). assigned n p h.value) h.known
    ∙ (ap (λ (v : Option Value). set_of (set_by n ClusteringMode v)) h.means
    ∙ ap (λ (t : Bool). set_of (if t then Ok (mode_setting h.mode) else Err (WrongMode n))) h.other))

-- ---- what is read of a line is what the grammar says

bad_is : (n k : ℕ) (line : List ℕ) → setting_at n line ≡ Err (BadLine k) → IsBad line
bad_is n k line h = record {
  not_empty = λ e. (let f = end_read n line e in absurd (cc));
  sets_nothing = λ s e. (let f = sets_read n line s e in absurd (cc));
  not_unknown = λ e. (let f = unknown_read n line e in absurd (cc));
  not_mode = λ e. (let f = mode_read n line e in absurd (cc));
}

-- the meaning of what was read
abbrev Means : ℕ → List ℕ → Result (Option Setting) ConfigFault → Type 0
Means n line (Ok None) = IsEnd line
Means n line (Ok (Some s)) = Sets line s
Means n line (Err fault) = HasFault n line fault

-- the fault of a refused value: of the mode by a string, or another
refused_is : (n : ℕ) (p : Parameter) (v : Value) → (refused n p v ≡ BadLine n) ⊎ ((mode : List ℕ) × (p ≡ ClusteringMode) × (v ≡ Text mode))
refused_is n ClusteringMode (Text mode) = inr (mode, refl, refl)
refused_is n ClusteringMode (Number k) = inl refl
refused_is n ClusteringMode (Truth on) = inl refl
refused_is n (Hostname b) v = inl refl
refused_is n (BackendPort b) v = inl refl
refused_is n (Weight b) v = inl refl
refused_is n ListenAddresses v = inl refl
refused_is n Port v = inl refl
refused_is n Children v = inl refl
refused_is n LoadBalance v = inl refl
refused_is n StatementBalance v = inl refl
refused_is n InsertLock v = inl refl
refused_is n StopOnMismatch v = inl refl
refused_is n FailoverOnMismatch v = inl refl
refused_is n (ScramUser u) v = inl refl
refused_is n (ScramVerifier u) v = inl refl
refused_is n ServerTimeout v = inl refl
refused_is n AuthenticationTimeout v = inl refl
refused_is n ClientIdleLimit v = inl refl
refused_is n LogConnections v = inl refl
refused_is n LogDisconnections v = inl refl
refused_is n BackendPassword v = inl refl

refused_means : (n : ℕ) (line name : List ℕ) (w : Spelling) (p : Parameter) (v : Value) → IsAssignment line name w
    → parameter_named name ≡ Some p → value_of w ≡ Some v → takes (kind_of p) v ≡ false
    → setting_at n line ≡ Err (refused n p v) → HasFault n line (refused n p v)
refused_means n line name w p v form known means not_taken read = go (refused_is n p v)
  where
    go : (refused n p v ≡ BadLine n) ⊎ ((mode : List ℕ) × (p ≡ ClusteringMode) × (v ≡ Text mode)) → HasFault n line (refused n p v)
    go (inl e) = subst (HasFault n line) (sym e) (refl, bad_is n n line (read ∙ ap (λ (f : ConfigFault). Err f) e))
    go (inr r) =
        let is : refused n p v ≡ WrongMode n = ap (λ (q : Parameter). refused n q v) r.1 ∙ ap (refused n ClusteringMode) r.2 in
        let not_this : takes (kind_of ClusteringMode) (Text r.0) ≡ false =
        ap (λ (x : Value). takes (kind_of ClusteringMode) x) (sym r.2) ∙ (ap (λ (q : Parameter). takes (kind_of q) v) (sym r.1) ∙ not_taken) in
        subst (HasFault n line) (sym is) (
          refl,
          record {
            name = name;
            mode = r.0;
            value = w;
            form = form;
            known = known ∙ ap (λ (q : Parameter). Some q) r.1;
            means = means ∙ ap (λ (x : Value). Some x) r.2;
            other = not_this;
          },
        )

taken_means : (n : ℕ) (line name : List ℕ) (w : Spelling) (p : Parameter) (v : Value) → IsAssignment line name w
    → parameter_named name ≡ Some p → value_of w ≡ Some v → (t : Bool) → takes (kind_of p) v ≡ t
    → setting_at n line ≡ set_of (if t then Ok (record { parameter = p; value = v }) else Err (refused n p v))
    → Means n line (set_of (if t then Ok (record { parameter = p; value = v }) else Err (refused n p v)))
taken_means n line name w p v form known means true e read = record { name = name; value = w; form = form; known = known; means = means; taken = e }
taken_means n line name w p v form known means false e read = refused_means n line name w p v form known means e read

valued_means : (n : ℕ) (line name : List ℕ) (w : Spelling) (p : Parameter) → IsAssignment line name w
    → parameter_named name ≡ Some p → (v : Option Value) → value_of w ≡ v → setting_at n line ≡ set_of (set_by n p v) → Means n line (set_of (set_by n p v))
valued_means n line name w p form known None e read = (refl, bad_is n n line read)
valued_means n line name w p form known (Some v) e read = taken_means n line name w p v form known e (takes (kind_of p) v) refl read

named_means : (n : ℕ) (line name : List ℕ) (w : Spelling) → IsAssignment line name w → (p : Option Parameter) → parameter_named name ≡ p
    → setting_at n line ≡ assigned n p w → Means n line (assigned n p w)
named_means n line name w form None e read = (refl, record { name = name; value = w; form = form; unknown = e })
named_means n line name w form (Some p) e read = valued_means n line name w p form e (value_of w) refl read

form_means : (n : ℕ) (line : List ℕ) (f : Form) → form_at line ≡ f → setting_at n line ≡ setting_in n f → Means n line (setting_in n f)
form_means n line empty e read = empty_is line e
form_means n line other e read = (refl, bad_is n n line read)
form_means n line (assignment name w) e read = named_means n line name w (form_is line name w e) (parameter_named name) refl read

line_means : (n : ℕ) (line : List ℕ) → Means n line (setting_at n line)
line_means n line = form_means n line (form_at line) refl refl

-- ---- the lines of a text

pub said_read : (n : ℕ) (ls : List (List ℕ)) (said : List Setting) → Say ls said → read_lines n ls ≡ Ok said
said_read n [] said h = ap (λ (xs : List Setting). Ok xs) (sym h)
said_read n (line ∷ rest) [] h =
    ap (λ (r : Result (Option Setting) ConfigFault). joined r (read_lines (n + 1) rest)) (end_read n line h.0) ∙ said_read (n + 1) rest [] h.1
said_read n (line ∷ rest) (s ∷ said) (inl h) =
    ap (λ (r : Result (Option Setting) ConfigFault). joined r (read_lines (n + 1) rest)) (end_read n line h.0) ∙ said_read (n + 1) rest (s ∷ said) h.1
said_read n (line ∷ rest) (s ∷ said) (inr h) =
    ap (λ (r : Result (Option Setting) ConfigFault). joined r (read_lines (n + 1) rest)) (sets_read n line s h.0) ∙ ap (joined (Ok (Some s))) (said_read (n + 1) rest said h.1)

say_end : (line : List ℕ) (rest : List (List ℕ)) (said : List Setting) → IsEnd line → Say rest said → Say (line ∷ rest) said
say_end line rest [] e h = (e, h)
say_end line rest (s ∷ said) e h = inl (e, h)

-- what lines from n on say, or their first fault
abbrev AllMean : ℕ → List (List ℕ) → Result (List Setting) ConfigFault → Type 0
AllMean n ls (Ok said) = Say ls said
AllMean n ls (Err fault) = FirstFault n ls fault

joined_means : (n : ℕ) (line : List ℕ) (rest : List (List ℕ)) (first : Result (Option Setting) ConfigFault) (more : Result (List Setting) ConfigFault)
    → Means n line first → AllMean (n + 1) rest more → AllMean n (line ∷ rest) (joined first more)
joined_means n line rest (Err fault) more h k = inl h
joined_means n line rest (Ok None) (Ok said) h k = say_end line rest said h k
joined_means n line rest (Ok None) (Err fault) h k = inr (inl h, k)
joined_means n line rest (Ok (Some s)) (Ok said) h k = inr (h, k)
joined_means n line rest (Ok (Some s)) (Err fault) h k = inr (inr (s, h), k)

lines_mean : (n : ℕ) (ls : List (List ℕ)) → AllMean n ls (read_lines n ls)
lines_mean n [] = refl
lines_mean n (line ∷ rest) = joined_means n line rest (setting_at n line) (read_lines (n + 1) rest) (line_means n line) (lines_mean (n + 1) rest)

-- ---- a text

-- what the answer to a text says
abbrev pub AnswerMeans : List ℕ → Result Config ConfigFault → Type 0
AnswerMeans text (Ok config) = IsConfiguration text config
AnswerMeans text (Err fault) = IsFault text fault

first_is_fault : (text : List ℕ) (fault : ConfigFault) → FirstFault 1 (lines text) fault → IsFault text fault
first_is_fault text (BadLine n) h = h
first_is_fault text (UnknownName n) h = h
first_is_fault text (WrongMode n) h = h
first_is_fault text (Missing name) h = absurd (never_missing 1 (lines text) name h)
  where
    never_missing : (n : ℕ) (ls : List (List ℕ)) (name : List ℕ) → FirstFault n ls (Missing name) → ⊥
    never_missing n [] name h = h
    never_missing n (line ∷ rest) name (inl h) = h
    never_missing n (line ∷ rest) name (inr h) = never_missing (n + 1) rest name h.1
first_is_fault text NoMemory h = never_memory 1 (lines text) h
  where
    never_memory : (n : ℕ) (ls : List (List ℕ)) → FirstFault n ls NoMemory → ⊥
    never_memory n [] h = h
    never_memory n (line ∷ rest) (inl h) = h
    never_memory n (line ∷ rest) (inr h) = never_memory (n + 1) rest h.1

assembled_means : (text : List ℕ) (r : Result (List Setting) ConfigFault) → AllMean 1 (lines text) r → AnswerMeans text (assembled r)
assembled_means text (Err fault) h = first_is_fault text fault h
assembled_means text (Ok said) h = go (missing_of said) refl
  where
    go : (m : Option Parameter) → missing_of said ≡ m → AnswerMeans text (unless_missing m said)
    go None e = record { said = said; lines_say = h; complete = e; is = refl }
    go (Some p) e = record { said = said; lines_say = h; lacking = ap (option_map name_of) e }

pub answer_means : (text : List ℕ) → AnswerMeans text (answer_of text)
unfolding answer_of
answer_means text = assembled_means text (read_lines 1 (lines text)) (lines_mean 1 (lines text))

-- the configuration that a text says is the answer
pub configuration_read : (text : List ℕ) (config : Config) → IsConfiguration text config → answer_of text ≡ Ok config
unfolding answer_of
configuration_read text config h =
    ap assembled (said_read 1 (lines text) h.said h.lines_say)
    ∙ (ap (λ (m : Option Parameter). unless_missing m h.said) h.complete ∙ ap (λ (c : Config). Ok c) (sym h.is))

-- what a call gave means what the grammar says
pub given_means : (text : List ℕ) (r : Result Config ConfigFault) → Gives r (answer_of text) → Says text r
given_means text (Ok config) h = subst (AnswerMeans text) h (answer_means text)
given_means text (Err NoMemory) h = tt
given_means text (Err (BadLine n)) h = subst (AnswerMeans text) h (answer_means text)
given_means text (Err (UnknownName n)) h = subst (AnswerMeans text) h (answer_means text)
given_means text (Err (WrongMode n)) h = subst (AnswerMeans text) h (answer_means text)
given_means text (Err (Missing name)) h = subst (AnswerMeans text) h (answer_means text)

-- and is that of the configuration that the text says
pub given_is : (text : List ℕ) (config : Config) (r : Result Config ConfigFault) → Gives r (answer_of text) → IsConfiguration text config → IsAnswer config r
given_is text config (Ok given) h c = let e = configuration_read text config c in cc
given_is text config (Err NoMemory) h c = refl
given_is text config (Err (BadLine n)) h c = let e = configuration_read text config c in absurd (cc)
given_is text config (Err (UnknownName n)) h c = let e = configuration_read text config c in absurd (cc)
given_is text config (Err (WrongMode n)) h c = let e = configuration_read text config c in absurd (cc)
given_is text config (Err (Missing name)) h c = let e = configuration_read text config c in absurd (cc)
