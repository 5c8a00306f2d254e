-- The answer of the command, where that is one.
use Rattle.std.specs.Prelude.{◌≡◌, ℕ, Bool, List, [], ◌∷◌}
use Rattle.jwt_mac.specs.Verifying.{Meaning}
use Rattle.jwt_words.specs.InHand.{Held}
use Rattle.jwt_command.specs.Issue.{issue_answer}
use Rattle.jwt_command.specs.Jwk.{IsJwkAnswer, secret_answer}
use Rattle.jwt_command.specs.Keys.{IsListed}
use Rattle.jwt_command.specs.Mac.{mac_answer, mac_in_hand}
use Rattle.jwt_command.specs.Policy.{IsPolicyAnswer}
use Rattle.jwt_output.specs.Printed.{Answer, line}
use Rattle.jwt_command.specs.Show.{IsShown}
use Rattle.jwt_output.specs.verdicts.Printer.{printer_for}
use Rattle.jwt_command.specs.declared.version.TheConstants.{VERSION}
use Rattle.jwt_command.specs.Verify.{verifiers_for, verify_answer}
use Rattle.jwt_settings.specs.declared.printing.Printing.TheVariants.{Lines}
use Rattle.jwt_words.specs.Words.{Command, Issue, Jwk, Keys, Mac, MacFile, NewSecret, Policy, Pretty, Show, Verify, VerifyLines, Version}

-- the program, and the kit that proved it
abbrev pub version_answer : Answer
version_answer = line (VERSION.now ∷ []) 0

-- with these verifiers at hand and these documents in hand, of an input, by a reader that has failed or not, where each file that is named is in
-- hand; `verify --lines` has an answer for each line, and none for all
abbrev pub IsAnswer : List Meaning → Held → Command → Bool → List ℕ → Answer → Type 0
IsAnswer built_in held (Mac key limit) failed x a = a ≡ mac_answer key limit failed x
IsAnswer built_in held (MacFile name limit) failed x a = a ≡ mac_in_hand held.key limit failed x
IsAnswer built_in held (Keys printing) failed x a = IsListed printing failed x a
IsAnswer built_in held (Show printing limit) failed x a = IsShown printing limit failed x a
IsAnswer built_in held (Verify printing now public_keys expected files) failed x a = a ≡ verify_answer (printer_for printing expected) (verifiers_for public_keys held built_in) now held failed x
IsAnswer built_in held (VerifyLines order) failed x a = ⊥
IsAnswer built_in held (Issue alg typ form files) failed x a = a ≡ issue_answer (record { alg = alg; typ = typ; form = form; key = 0 }) held.keys failed x
IsAnswer built_in held Version failed x a = a ≡ version_answer
IsAnswer built_in held (Jwk order) failed x a = IsJwkAnswer order held.key failed x a
IsAnswer built_in held (NewSecret order) failed x a = a ≡ secret_answer order.files.key order held
IsAnswer built_in held (Policy order) failed x a = IsPolicyAnswer order.printing built_in held a
IsAnswer built_in held (Pretty order) failed x a = IsShown Lines order.limit failed x a
