use Rattle.std.proofs.Common.{◌≡◌, drop, map, false}
use Rattle.clap.specs.Words.{app_of}
use Rattle.clap.specs.declared.builder.command.Command.TheViews.{out-Command as fields_of}
use Rattle.jwt_words.specs.Options.{app_by, rule_by, with_rules}
use Rattle.jwt_words.specs.Rows.{row_view}
use Rattle.jwt_words.proofs.app.of_rows.Given as goal

abbrev pub invariant-loop-row : goal.invariant-loop-row
invariant-loop-row l = record {
  local : (fields_of l.command).has_globals ≡ false;
  rest : with_rules (app_of l.command) (map (rule_by l.has_clock) (map row_view (drop l.row-index l.rows))) ≡ app_by l.has_clock l.fn.name (map row_view l.rows);
}
