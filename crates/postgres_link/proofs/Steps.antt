-- Steps by an error, and steps of an answer that is too large.
use Rattle.std.proofs.Common.{◌≡◌, true, false, List}
use Rattle.pg_messages.specs.declared.server.Part.{Part}
use Rattle.pg_messages.specs.declared.server.ServerMessage.{ServerMessage}
use Rattle.pg_messages.specs.declared.server.ServerMessage.TheVariants as message
use Rattle.postgres_link.specs.declared.asked.Asked.{Asked}
use Rattle.postgres_link.specs.declared.asked.Reply.{Reply}
use Rattle.postgres_link.specs.declared.asked.Stage.{Stage}
use Rattle.postgres_link.specs.declared.asked.Stage.TheVariants as stage
use Rattle.postgres_link.specs.declared.asked.Wanted.{Wanted}
use Rattle.postgres_link.specs.declared.hearing.Step.{Step}
use Rattle.postgres_link.specs.declared.hearing.Step.TheVariants as step
use Rattle.postgres_link.specs.Asked.{Carries, Refuses, Goes, GoesAt, GoesOn, PassesBy, ReadsOn, Ends, is_over}
use Rattle.postgres_link.specs.Hearing.{IsStep}

pub refused_step : (parts : List Part) (r : Step Reply) (old new : Asked) → Carries (λ s. Refuses old.stage parts s) r old new → IsStep ReadsOn Ends r old (message.Error parts) new
refused_step parts step.Goes old new carries = carries
refused_step parts (step.Ends r) old new carries = elim carries [ ]
refused_step parts step.Breaks old new none = (λ other goes. none other.stage goes.1, λ r ends. ends)

-- of an answer that is not too large each message is read
read_on_at : (w : Wanted) (s new : Stage) (m : ServerMessage) → is_over s ≡ false → GoesOn w s m new → GoesAt w s m new
read_on_at w stage.Open new m e goes = goes
read_on_at w stage.Begun new m e goes = goes
read_on_at w (stage.Rows rows) new m e goes = goes
read_on_at w (stage.Said r) new m e goes = goes
read_on_at w (stage.Over code) new m e goes = absurd (let f : true ≡ false = e in cc)

goes_read_on : (w : Wanted) (s new : Stage) (m : ServerMessage) → is_over s ≡ false → GoesAt w s m new → GoesOn w s m new
goes_read_on w stage.Open new m e goes = goes
goes_read_on w stage.Begun new m e goes = goes
goes_read_on w (stage.Rows rows) new m e goes = goes
goes_read_on w (stage.Said r) new m e goes = goes
goes_read_on w (stage.Over code) new m e goes = absurd (let f : true ≡ false = e in cc)

pub read_on_step : (r : Step Reply) (old new : Asked) (m : ServerMessage) → is_over old.stage ≡ false → IsStep ReadsOn Ends r old m new → IsStep Goes Ends r old m new
read_on_step step.Goes old new m e goes = (goes.0, read_on_at old.wanted old.stage new.stage m e goes.1)
read_on_step (step.Ends r) old new m e ends = ends
read_on_step step.Breaks old new m e none = (λ other goes. none.0 other (goes.0, goes_read_on old.wanted old.stage other.stage m e goes.1), none.1)

-- of an answer that is too large each message is passed over
pub pass_by_at : (w : Wanted) (s new : Stage) (m : ServerMessage) → is_over s ≡ true → PassesBy s m new → GoesAt w s m new
pass_by_at w stage.Open new m e goes = absurd (let f : false ≡ true = e in cc)
pass_by_at w stage.Begun new m e goes = absurd (let f : false ≡ true = e in cc)
pass_by_at w (stage.Rows rows) new m e goes = absurd (let f : false ≡ true = e in cc)
pass_by_at w (stage.Said r) new m e goes = absurd (let f : false ≡ true = e in cc)
pass_by_at w (stage.Over code) new m e goes = goes

goes_by_at : (w : Wanted) (s new : Stage) (m : ServerMessage) → is_over s ≡ true → GoesAt w s m new → PassesBy s m new
goes_by_at w stage.Open new m e goes = absurd (let f : false ≡ true = e in cc)
goes_by_at w stage.Begun new m e goes = absurd (let f : false ≡ true = e in cc)
goes_by_at w (stage.Rows rows) new m e goes = absurd (let f : false ≡ true = e in cc)
goes_by_at w (stage.Said r) new m e goes = absurd (let f : false ≡ true = e in cc)
goes_by_at w (stage.Over code) new m e goes = goes

pub refused_by : (parts : List Part) (r : Step Reply) (old new : Asked) → is_over old.stage ≡ true → Carries (λ s. Refuses old.stage parts s) r old new → IsStep Goes Ends r old (message.Error parts) new
refused_by parts step.Goes old new e carries = (carries.0, pass_by_at old.wanted old.stage new.stage (message.Error parts) e carries.1)
refused_by parts (step.Ends r) old new e carries = elim carries [ ]
refused_by parts step.Breaks old new e none = (λ other goes. none other.stage (goes_by_at old.wanted old.stage other.stage (message.Error parts) e goes.1), λ r ends. ends)
