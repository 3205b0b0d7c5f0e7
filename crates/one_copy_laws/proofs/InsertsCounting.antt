-- What a serial insert answers: a count, or a refusal.
use Rattle.std.proofs.Common.{◌≡◌, ℕ, ℤ, true, false, List, Bool, refl, sym, ap, ◌∙◌, eqb-true}
use Rattle.std.specs.Prelude.{Some, None, if◌then◌else◌}
use Rattle.catalogue.specs.declared.checked.Checked.{Checked}
use Rattle.catalogue.specs.declared.checked.CheckedBody.{CheckedBody}
use Rattle.catalogue.specs.declared.checked.CheckedBody.TheVariants as body
use Rattle.catalogue.specs.declared.checked.ColumnDesc.{ColumnDesc}
use Rattle.pool_base.specs.declared.code.Code.{Code}
use Rattle.backend_trait.specs.declared.answer.Answer.{Answer}
use Rattle.backend_trait.specs.declared.answer.Answer.TheVariants as answers
use Rattle.backend_trait.specs.Runnable.{is_given}
use Rattle.backend_trait.specs.Store.{is_refusal}
use Rattle.session_machine.specs.declared.work.Class.TheVariants as classes
use Rattle.session_machine.specs.declared.work.Verb.TheVariants as verbs
use Rattle.session_machine.specs.declared.work.Work.{Work}
use Rattle.session_machine.specs.Answers.{is_same}
use Rattle.session_machine.specs.Classes.{class_in as own_class, work_in}
use Rattle.session_machine.specs.Rules.{rewritten, work_at, is_moment}
use Rattle.one_copy_laws.proofs.DecidedSame.{refused_apart}

-- what is the same as a result is no refusal
pub plain_same : (x y : Answer) → is_refusal y ≡ false → is_same x y ≡ true → is_refusal x ≡ false
plain_same answers.Began y plain e = refl
plain_same (answers.Rows rows) y plain e = refl
plain_same (answers.Count n) y plain e = refl
plain_same answers.Locked y plain e = refl
plain_same answers.Done y plain e = refl
plain_same (answers.Serial n) y plain e = refl
plain_same (answers.Refused code) y plain e = absurd (refused_apart code y plain e)

read_class : (v : Bool) (table : ℕ) → (if v then classes.LockingRead else classes.Read) ≡ classes.SerialInsert table → ⊥
read_class true table e = cc
read_class false table e = cc

pub insert_counts : (b : CheckedBody) (table : ℕ) (columns : List ColumnDesc) (answer : Answer) → own_class b ≡ classes.SerialInsert table → is_given b columns answer ≡ true → is_refusal answer ≡ false
    → (n : ℕ) × (answer ≡ answers.Count n)
insert_counts (body.Read read) table columns answer c form plain = absurd (read_class read.for_update table c)
insert_counts (body.Change change) table columns answer c form plain = absurd (let z : classes.Write verbs.Update ≡ classes.SerialInsert table = c in cc)
insert_counts (body.Remove remove) table columns answer c form plain = absurd (let z : classes.Write verbs.Delete ≡ classes.SerialInsert table = c in cc)
insert_counts (body.Insert insert) table columns (answers.Count n) c form plain = (n, refl)
insert_counts (body.Insert insert) table columns answers.Began c form plain = absurd (let z : false ≡ true = form in cc)
insert_counts (body.Insert insert) table columns (answers.Rows rows) c form plain = absurd (let z : false ≡ true = form in cc)
insert_counts (body.Insert insert) table columns answers.Locked c form plain = absurd (let z : false ≡ true = form in cc)
insert_counts (body.Insert insert) table columns answers.Done c form plain = absurd (let z : false ≡ true = form in cc)
insert_counts (body.Insert insert) table columns (answers.Serial n) c form plain = absurd (let z : false ≡ true = form in cc)
insert_counts (body.Insert insert) table columns (answers.Refused code) c form plain = absurd (let z : true ≡ false = plain in cc)

-- counts that are the same are one
pub one_count : (x y : Answer) (n k : ℕ) → x ≡ answers.Count n → y ≡ answers.Count k → is_same x y ≡ true → x ≡ y
one_count x y n k e f same =
    let both : is_same x y ≡ is_same (answers.Count n) (answers.Count k) = ap (is_same x) f ∙ ap (λ (a : Answer). is_same a (answers.Count k)) e in
    e ∙ ap answers.Count (eqb-true n k (sym both ∙ same)) ∙ sym f

-- what is the same as a refusal is one
pub same_refused : (x : Answer) (code : Code) → is_same x (answers.Refused code) ≡ true → is_refusal x ≡ true
same_refused (answers.Refused other) code e = refl
same_refused answers.Began code e = absurd (let z : false ≡ true = e in cc)
same_refused (answers.Rows rows) code e = absurd (let z : false ≡ true = e in cc)
same_refused (answers.Count n) code e = absurd (let z : false ≡ true = e in cc)
same_refused answers.Locked code e = absurd (let z : false ≡ true = e in cc)
same_refused answers.Done code e = absurd (let z : false ≡ true = e in cc)
same_refused (answers.Serial n) code e = absurd (let z : false ≡ true = e in cc)

-- what is written at its moment has the class of the statement
pub class_written : (moment : ℤ) (checked : Checked) (work : Work) → rewritten moment (work_in checked) ≡ Some work → work.class ≡ own_class checked.body
class_written moment checked work = by (is_moment moment)
  where
    by : (w : Bool) → (if w then Some (work_at moment (work_in checked)) else None) ≡ Some work → work.class ≡ own_class checked.body
    by true e = let same : work_at moment (work_in checked) ≡ work = cc in ap (λ (x : Work). x.class) (sym same)
    by false e = absurd (let z : None ≡ Some work = e in cc)
