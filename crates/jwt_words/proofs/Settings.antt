-- What settings of an option leave as it is.
use Rattle.std.specs.Prelude.{Bool}
use Rattle.clap.specs.declared.builder.arg.Arg.{Arg}

abbrev pub is_global : Arg → Bool
is_global a = a.global
