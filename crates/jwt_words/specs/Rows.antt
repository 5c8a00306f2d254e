-- The rows of the table of options as contracts see them.
use Rattle.jwt_words.specs.Options.{Row}
use Rattle.jwt_words.specs.declared.options.OptionRow.{OptionRow}

abbrev pub row_view : OptionRow → Row
row_view r = (r.name.now, r.takes)
