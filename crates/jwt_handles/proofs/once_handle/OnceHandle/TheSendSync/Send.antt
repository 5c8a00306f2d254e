-- The handle of a memory of tokens that count once may go to another thread, since its state may.
use denote.Param.Send.{IsSend}
use Rattle.jwt_handles.proofs.HandleForms.{once}
use Rattle.jwt_handles.proofs.Handles.{handle_send}
use Rattle.jwt_handles.proofs.once_state.OnceState.TheSendSync.{the_send}
use Rattle.jwt_handles.specs.contracts.once_handle.OnceHandle.{the_row}

pub send : IsSend the_row
send = handle_send once the_send
