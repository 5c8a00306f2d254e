-- The handle of a policy for proofs of possession may go to another thread, since its state may.
use denote.Param.Send.{IsSend}
use Rattle.jwt_handles.proofs.HandleForms.{possession}
use Rattle.jwt_handles.proofs.Handles.{handle_send}
use Rattle.jwt_handles.proofs.possession_state.PossessionState.TheSendSync.{the_send}
use Rattle.jwt_handles.specs.contracts.possession_handle.PossessionHandle.{the_row}

pub send : IsSend the_row
send = handle_send possession the_send
