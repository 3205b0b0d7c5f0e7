use Rattle.sql_profile.proofs.NamedTexts.{text_due, alone}
use Rattle.sql_profile.proofs.due.awaited_is_due.Goals as goal

pub returns-clause-due : goal.returns-clause-due
returns-clause-due c = text_due 64

pub returns-clause-alone : goal.returns-clause-alone
returns-clause-alone c = alone 64
