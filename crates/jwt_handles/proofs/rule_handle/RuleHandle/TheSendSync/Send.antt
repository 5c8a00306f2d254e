-- The handle of an access rule may go to another thread, since its state may.
use denote.Param.Send.{IsSend}
use Rattle.jwt_handles.proofs.HandleForms.{rule}
use Rattle.jwt_handles.proofs.Handles.{handle_send}
use Rattle.jwt_handles.proofs.rule_state.RuleState.TheSendSync.{the_send}
use Rattle.jwt_handles.specs.contracts.rule_handle.RuleHandle.{the_row}

pub send : IsSend the_row
send = handle_send rule the_send
