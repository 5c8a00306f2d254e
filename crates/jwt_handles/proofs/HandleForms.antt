-- The form of each handle.
use Rattle.std.proofs.Common.{refl}
use Rattle.jwt_handles.proofs.Handles.{Form}
use Rattle.jwt_handles.specs.contracts.state.State as state
use Rattle.jwt_handles.specs.contracts.handle.Handle as handle
use Rattle.jwt_handles.specs.contracts.rule_state.RuleState as rule_state
use Rattle.jwt_handles.specs.contracts.rule_handle.RuleHandle as rule_handle
use Rattle.jwt_handles.specs.contracts.once_state.OnceState as once_state
use Rattle.jwt_handles.specs.contracts.once_handle.OnceHandle as once_handle
use Rattle.jwt_handles.specs.contracts.possession_state.PossessionState as possession_state
use Rattle.jwt_handles.specs.contracts.possession_handle.PossessionHandle as possession_handle

abbrev pub validator : Form state.the_row
validator = record {
  declared = handle.the_type;
  values = λ d. (d.at, (d.held, (d.alloc, tt)));
  state = λ d. d.state;
  make = λ v s. record { at = v.0; held = v.1.0; alloc = v.1.1.0; state = s };
  values_is = λ v s. refl;
  state_is = λ v s. refl;
}

abbrev pub rule : Form rule_state.the_row
rule = record {
  declared = rule_handle.the_type;
  values = λ d. (d.at, (d.held, (d.alloc, tt)));
  state = λ d. d.state;
  make = λ v s. record { at = v.0; held = v.1.0; alloc = v.1.1.0; state = s };
  values_is = λ v s. refl;
  state_is = λ v s. refl;
}

abbrev pub once : Form once_state.the_row
once = record {
  declared = once_handle.the_type;
  values = λ d. (d.at, (d.held, (d.alloc, tt)));
  state = λ d. d.state;
  make = λ v s. record { at = v.0; held = v.1.0; alloc = v.1.1.0; state = s };
  values_is = λ v s. refl;
  state_is = λ v s. refl;
}

abbrev pub possession : Form possession_state.the_row
possession = record {
  declared = possession_handle.the_type;
  values = λ d. (d.at, (d.held, (d.alloc, tt)));
  state = λ d. d.state;
  make = λ v s. record { at = v.0; held = v.1.0; alloc = v.1.1.0; state = s };
  values_is = λ v s. refl;
  state_is = λ v s. refl;
}
