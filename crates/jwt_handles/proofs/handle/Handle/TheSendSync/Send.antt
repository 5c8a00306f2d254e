-- The handle of a validator may go to another thread, since its state may.
use denote.Param.Send.{IsSend}
use Rattle.jwt_handles.proofs.HandleForms.{validator}
use Rattle.jwt_handles.proofs.Handles.{handle_send}
use Rattle.jwt_handles.proofs.state.State.TheSendSync.{the_send}
use Rattle.jwt_handles.specs.contracts.handle.Handle.{the_row}

pub send : IsSend the_row
send = handle_send validator the_send
