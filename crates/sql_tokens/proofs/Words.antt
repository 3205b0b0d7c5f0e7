-- Every reserved word stands in the table of words, and no two are spelled alike.
use Rattle.std.proofs.Common.{◌≡◌, ◌∙◌, ◌≢◌, ℕ, ◌<◌, ◌+◌, arith, inl, inr, get_or, true, false, List, [], ◌∷◌, length, Option, Some, None, if◌then◌else◌, sym, ap, refl, lit<}
use Rattle.std.specs.Prelude.{Contains, bytes_eq}
use Rattle.std.proofs.lemmas.Bool.{cases_eq, true≢false}
use Rattle.std.proofs.lemmas.List.{get_or_default}
use Rattle.std.proofs.lemmas.Slice.Eq.{bytes_eq-Decides}
use Rattle.sql_tokens.specs.declared.word.Word.{Word}
use Rattle.sql_tokens.specs.declared.word.Word.TheVariants.{Abort, All, Alter, Analyze, And, Any, Array, As, Asc, Begin, Between, By, Case, Cast, Close, Collate, Commit, Committed, Copy, Create, Cross, CurrentDate, CurrentTimestamp, Declare, Default, Delete, Desc, Distinct, Do, Drop, End, Except, Execute, Exists, Explain, False, Fetch, For, From, Full, Grant, Group, Having, Ilike, In, Inner, Insert, Intersect, Into, Is, Isolation, Join, Key, Left, Level, Like, Limit, Listen, LocalTimestamp, Lock, Merge, Natural, Not, Notify, Null, Nulls, Offset, On, Only, Or, Order, Over, Prepare, Primary, Read, Release, Repeatable, Returning, Revoke, Right, Rollback, Savepoint, Select, Serializable, Set, Share, Show, Similar, Start, Table, Timestamptz, Transaction, True, Truncate, Uncommitted, Union, Update, Using, Vacuum, Values, Where, Window, With, Work, Write}
use Rattle.sql_tokens.specs.declared.word.TheConstants.{WORDS}
use Rattle.sql_tokens.specs.Words.{spelling}

pub every_word : (word : Word) → Contains WORDS word
every_word Abort = (0, lit< tt, refl)
every_word All = (1, lit< tt, refl)
every_word Alter = (2, lit< tt, refl)
every_word Analyze = (3, lit< tt, refl)
every_word And = (4, lit< tt, refl)
every_word Any = (5, lit< tt, refl)
every_word Array = (6, lit< tt, refl)
every_word As = (7, lit< tt, refl)
every_word Asc = (8, lit< tt, refl)
every_word Begin = (9, lit< tt, refl)
every_word Between = (10, lit< tt, refl)
every_word By = (11, lit< tt, refl)
every_word Case = (12, lit< tt, refl)
every_word Cast = (13, lit< tt, refl)
every_word Close = (14, lit< tt, refl)
every_word Collate = (15, lit< tt, refl)
every_word Commit = (16, lit< tt, refl)
every_word Committed = (17, lit< tt, refl)
every_word Copy = (18, lit< tt, refl)
every_word Create = (19, lit< tt, refl)
every_word Cross = (20, lit< tt, refl)
every_word CurrentDate = (21, lit< tt, refl)
every_word CurrentTimestamp = (22, lit< tt, refl)
every_word Declare = (23, lit< tt, refl)
every_word Default = (24, lit< tt, refl)
every_word Delete = (25, lit< tt, refl)
every_word Desc = (26, lit< tt, refl)
every_word Distinct = (27, lit< tt, refl)
every_word Do = (28, lit< tt, refl)
every_word Drop = (29, lit< tt, refl)
every_word End = (30, lit< tt, refl)
every_word Except = (31, lit< tt, refl)
every_word Execute = (32, lit< tt, refl)
every_word Exists = (33, lit< tt, refl)
every_word Explain = (34, lit< tt, refl)
every_word False = (35, lit< tt, refl)
every_word Fetch = (36, lit< tt, refl)
every_word For = (37, lit< tt, refl)
every_word From = (38, lit< tt, refl)
every_word Full = (39, lit< tt, refl)
every_word Grant = (40, lit< tt, refl)
every_word Group = (41, lit< tt, refl)
every_word Having = (42, lit< tt, refl)
every_word Ilike = (43, lit< tt, refl)
every_word In = (44, lit< tt, refl)
every_word Inner = (45, lit< tt, refl)
every_word Insert = (46, lit< tt, refl)
every_word Intersect = (47, lit< tt, refl)
every_word Into = (48, lit< tt, refl)
every_word Is = (49, lit< tt, refl)
every_word Isolation = (50, lit< tt, refl)
every_word Join = (51, lit< tt, refl)
every_word Key = (52, lit< tt, refl)
every_word Left = (53, lit< tt, refl)
every_word Level = (54, lit< tt, refl)
every_word Like = (55, lit< tt, refl)
every_word Limit = (56, lit< tt, refl)
every_word Listen = (57, lit< tt, refl)
every_word LocalTimestamp = (58, lit< tt, refl)
every_word Lock = (59, lit< tt, refl)
every_word Merge = (60, lit< tt, refl)
every_word Natural = (61, lit< tt, refl)
every_word Not = (62, lit< tt, refl)
every_word Notify = (63, lit< tt, refl)
every_word Null = (64, lit< tt, refl)
every_word Nulls = (65, lit< tt, refl)
every_word Offset = (66, lit< tt, refl)
every_word On = (67, lit< tt, refl)
every_word Only = (68, lit< tt, refl)
every_word Or = (69, lit< tt, refl)
every_word Order = (70, lit< tt, refl)
every_word Over = (71, lit< tt, refl)
every_word Prepare = (72, lit< tt, refl)
every_word Primary = (73, lit< tt, refl)
every_word Read = (74, lit< tt, refl)
every_word Release = (75, lit< tt, refl)
every_word Repeatable = (76, lit< tt, refl)
every_word Returning = (77, lit< tt, refl)
every_word Revoke = (78, lit< tt, refl)
every_word Right = (79, lit< tt, refl)
every_word Rollback = (80, lit< tt, refl)
every_word Savepoint = (81, lit< tt, refl)
every_word Select = (82, lit< tt, refl)
every_word Serializable = (83, lit< tt, refl)
every_word Set = (84, lit< tt, refl)
every_word Share = (85, lit< tt, refl)
every_word Show = (86, lit< tt, refl)
every_word Similar = (87, lit< tt, refl)
every_word Start = (88, lit< tt, refl)
every_word Table = (89, lit< tt, refl)
every_word Timestamptz = (90, lit< tt, refl)
every_word Transaction = (91, lit< tt, refl)
every_word True = (92, lit< tt, refl)
every_word Truncate = (93, lit< tt, refl)
every_word Uncommitted = (94, lit< tt, refl)
every_word Union = (95, lit< tt, refl)
every_word Update = (96, lit< tt, refl)
every_word Using = (97, lit< tt, refl)
every_word Vacuum = (98, lit< tt, refl)
every_word Values = (99, lit< tt, refl)
every_word Where = (100, lit< tt, refl)
every_word Window = (101, lit< tt, refl)
every_word With = (102, lit< tt, refl)
every_word Work = (103, lit< tt, refl)
every_word Write = (104, lit< tt, refl)

-- the first of the words that is spelled so
abbrev look_up : List ℕ → List Word → Option Word
look_up text [] = None
look_up text (word ∷ words) = if bytes_eq (spelling word) text then Some word else look_up text words

found : (word : Word) → look_up (spelling word) WORDS ≡ Some word
found Abort = refl
found All = refl
found Alter = refl
found Analyze = refl
found And = refl
found Any = refl
found Array = refl
found As = refl
found Asc = refl
found Begin = refl
found Between = refl
found By = refl
found Case = refl
found Cast = refl
found Close = refl
found Collate = refl
found Commit = refl
found Committed = refl
found Copy = refl
found Create = refl
found Cross = refl
found CurrentDate = refl
found CurrentTimestamp = refl
found Declare = refl
found Default = refl
found Delete = refl
found Desc = refl
found Distinct = refl
found Do = refl
found Drop = refl
found End = refl
found Except = refl
found Execute = refl
found Exists = refl
found Explain = refl
found False = refl
found Fetch = refl
found For = refl
found From = refl
found Full = refl
found Grant = refl
found Group = refl
found Having = refl
found Ilike = refl
found In = refl
found Inner = refl
found Insert = refl
found Intersect = refl
found Into = refl
found Is = refl
found Isolation = refl
found Join = refl
found Key = refl
found Left = refl
found Level = refl
found Like = refl
found Limit = refl
found Listen = refl
found LocalTimestamp = refl
found Lock = refl
found Merge = refl
found Natural = refl
found Not = refl
found Notify = refl
found Null = refl
found Nulls = refl
found Offset = refl
found On = refl
found Only = refl
found Or = refl
found Order = refl
found Over = refl
found Prepare = refl
found Primary = refl
found Read = refl
found Release = refl
found Repeatable = refl
found Returning = refl
found Revoke = refl
found Right = refl
found Rollback = refl
found Savepoint = refl
found Select = refl
found Serializable = refl
found Set = refl
found Share = refl
found Show = refl
found Similar = refl
found Start = refl
found Table = refl
found Timestamptz = refl
found Transaction = refl
found True = refl
found Truncate = refl
found Uncommitted = refl
found Union = refl
found Update = refl
found Using = refl
found Vacuum = refl
found Values = refl
found Where = refl
found Window = refl
found With = refl
found Work = refl
found Write = refl

pub spelled_once : (word other : Word) → spelling word ≡ spelling other → word ≡ other
spelled_once word other e =
    let same : Some word ≡ Some other = sym (found word) ∙ (ap (λ (text : List ℕ). look_up text WORDS) e ∙ found other) in
    cc

-- one word more is not spelled so
pub not_spelled : (words : List Word) (i : ℕ) (first : Word) (text : List ℕ) {seen : List ℕ} → i < length words
    → ((k : ℕ) (d : Word) → k < i → spelling (get_or words k d) ≢ text)
    → seen ≡ spelling (get_or words i first) → bytes_eq seen text ≡ false
    → (k : ℕ) (d : Word) → k < i + 1 → spelling (get_or words k d) ≢ text
not_spelled words i first text {seen} within before is differs k d below =
    elim (cases_eq k i) as (λ _. spelling (get_or words k d) ≢ text) [ inl e ↦ here e | inr apart ↦ before k d (omega (arith, apart)) ]
  where
    here : k ≡ i → spelling (get_or words k d) ≢ text
    here e same =
        let other : get_or words i first ≡ get_or words k d = get_or_default words i first d within ∙ ap (λ (n : ℕ). get_or words n d) (sym e) in
        true≢false (sym ((bytes_eq-Decides seen text).1 (is ∙ (ap spelling other ∙ same))) ∙ differs)
