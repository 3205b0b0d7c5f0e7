-- What the small value tells of what is due.
use Rattle.std.proofs.Common.{◌≡◌, refl}
use Rattle.pool_base.specs.declared.backend_id.BackendId.{BackendId}
use Rattle.session_machine.specs.declared.action.Action.{Action}
use Rattle.session_machine.specs.declared.action.Action.TheVariants as actions
use Rattle.session_engine.specs.declared.ask.Ask.TheVariants as asks
use Rattle.session_engine.specs.Handing.{asked_of, IsPost, IsDetach, IsReply}

pub is_post : (action : Action) (b : BackendId) → asked_of action ≡ asks.Post b → IsPost action
is_post (actions.Post c request) b is = tt
is_post actions.Rest b is = absurd (cc)
is_post (actions.Gate call) b is = absurd (cc)
is_post (actions.Detach c cause) b is = absurd (cc)
is_post (actions.WaitFor c) b is = absurd (cc)
is_post (actions.Reply outcome status) b is = absurd (cc)
is_post actions.End b is = absurd (cc)

pub is_detach : (action : Action) (b : BackendId) → asked_of action ≡ asks.Detach b → IsDetach action
is_detach (actions.Detach c cause) b is = tt
is_detach actions.Rest b is = absurd (cc)
is_detach (actions.Gate call) b is = absurd (cc)
is_detach (actions.Post c request) b is = absurd (cc)
is_detach (actions.WaitFor c) b is = absurd (cc)
is_detach (actions.Reply outcome status) b is = absurd (cc)
is_detach actions.End b is = absurd (cc)

pub is_reply : (action : Action) → asked_of action ≡ asks.Reply → IsReply action
is_reply (actions.Reply outcome status) is = tt
is_reply actions.Rest is = absurd (cc)
is_reply (actions.Gate call) is = absurd (cc)
is_reply (actions.Post c request) is = absurd (cc)
is_reply (actions.Detach c cause) is = absurd (cc)
is_reply (actions.WaitFor c) is = absurd (cc)
is_reply actions.End is = absurd (cc)

pub is_end : (action : Action) → asked_of action ≡ asks.End → action ≡ actions.End
is_end actions.End is = refl
is_end actions.Rest is = absurd (cc)
is_end (actions.Gate call) is = absurd (cc)
is_end (actions.Post c request) is = absurd (cc)
is_end (actions.Detach c cause) is = absurd (cc)
is_end (actions.WaitFor c) is = absurd (cc)
is_end (actions.Reply outcome status) is = absurd (cc)
