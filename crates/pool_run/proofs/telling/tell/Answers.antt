use Rattle.std.proofs.Common.{◌≡◌, ℕ, List, refl, sym, subst}
use Rattle.std.specs.Prelude.{Option}
use Rattle.backend_trait.specs.Store.{Store}
use Rattle.pool_run.specs.Ends.{outside}
use Rattle.pool_run.specs.Plan.{StopEnds}
use Rattle.pool_run.specs.declared.plan.Stop.{Stop}
use Rattle.pool_run.specs.declared.plan.Stop.TheVariants.{Unread, NoCommand, ConfigTooLong, Config, Schema, Script, NotBuilt}
use Rattle.pool_run.specs.declared.status.Status.{Status}
use Rattle.pool_run.proofs.telling.tell.Goals as goal

ends_of : (found stop : Stop) (s : Status) (n m : ℕ) (a b : Option (List ℕ)) (stores : List Store) → found ≡ stop → StopEnds stop s (outside n m a b stores stores) → StopEnds found s (outside n m a b stores stores)
ends_of found stop s n m a b stores is e = subst (λ (t : Stop). StopEnds t s (outside n m a b stores stores)) (sym is) e

pub returns-in-Unread : goal.returns-in-Unread
returns-in-Unread g c = λ stores.
    let n = g.O.Sink.fault_count c.args.out.now in
    let a = g.O.Sink.taken c.args.out.now in
    ends_of c.args.stop.now (Unread c.in-Unread.status) c.in-Unread.status n n a a stores c.in-Unread.is (refl, refl)

pub returns-in-NoCommand : goal.returns-in-NoCommand
returns-in-NoCommand g c = λ stores.
    let taken = g.O.Sink.taken in
    let count = g.O.Sink.fault_count in
    ends_of c.args.stop.now NoCommand c.tell_no_command.result (count c.args.out.now) (count c.tell_no_command.new.out) (taken c.args.out.now) (taken c.tell_no_command.new.out) stores c.in-NoCommand.is (c.tell_no_command.ensures stores)

pub returns-in-ConfigTooLong : goal.returns-in-ConfigTooLong
returns-in-ConfigTooLong g c = λ stores.
    let taken = g.O.Sink.taken in
    let count = g.O.Sink.fault_count in
    ends_of c.args.stop.now ConfigTooLong c.tell_long_config.result (count c.args.out.now) (count c.tell_long_config.new.out) (taken c.args.out.now) (taken c.tell_long_config.new.out) stores c.in-ConfigTooLong.is (c.tell_long_config.ensures stores)

pub returns-in-Config : goal.returns-in-Config
returns-in-Config g c = λ stores.
    let taken = g.O.Sink.taken in
    let count = g.O.Sink.fault_count in
    ends_of c.args.stop.now (Config c.in-Config.fault) c.tell_fault.result (count c.args.out.now) (count c.tell_fault.new.out) (taken c.args.out.now) (taken c.tell_fault.new.out) stores c.in-Config.is (record { memory = c.tell_fault.ensures.memory; refuses = λ other. c.tell_fault.ensures.refuses other stores })

pub returns-in-Schema : goal.returns-in-Schema
returns-in-Schema g c = λ stores.
    let taken = g.O.Sink.taken in
    let count = g.O.Sink.fault_count in
    ends_of c.args.stop.now (Schema c.in-Schema.stop) c.refuse_schema.result (count c.args.out.now) (count c.refuse_schema.new.out) (taken c.args.out.now) (taken c.refuse_schema.new.out) stores c.in-Schema.is (c.refuse_schema.ensures stores)

pub returns-in-Script : goal.returns-in-Script
returns-in-Script g c = λ stores.
    let taken = g.O.Sink.taken in
    let count = g.O.Sink.fault_count in
    ends_of c.args.stop.now (Script c.in-Script.stop) c.refuse_script.result (count c.args.out.now) (count c.refuse_script.new.out) (taken c.args.out.now) (taken c.refuse_script.new.out) stores c.in-Script.is (c.refuse_script.ensures stores)

pub returns-in-NotBuilt : goal.returns-in-NotBuilt
returns-in-NotBuilt g c = λ stores.
    let taken = g.O.Sink.taken in
    let count = g.O.Sink.fault_count in
    ends_of c.args.stop.now NotBuilt c.tell_not_built.result (count c.args.out.now) (count c.tell_not_built.new.out) (taken c.args.out.now) (taken c.tell_not_built.new.out) stores c.in-NotBuilt.is (c.tell_not_built.ensures stores)
