use Rattle.std.proofs.Common.{refl}
use Rattle.clap.proofs.OnLiterals.{clap_on_literals}
use Rattle.jwt_mac.specs.Algorithm.{alg_named}
use Rattle.jwt_words.proofs.words.some_words.Goals as goal

pub returns : goal.returns
unfolding clap_on_literals alg_named
returns c = record { key_alone = refl; key_and_limit = refl; key_with_hyphen = refl; key_hyphen_apart = refl; limit_zero = refl; limit_plus = refl; no_key = refl; key_twice = refl; no_words = refl; help_flag = refl; help_word = refl; mac_help = refl; empty_key = refl; a_moment = refl; too_late = refl; public_keys = refl; public_keys_behind = refl; public_keys_twice = refl; public_keys_of_a_value = refl; version = refl; version_and_more = refl; version_of_a_command = refl; clock_alone = refl; now_before_clock = refl; too_late_with_clock = refl; no_moment = refl; files_named = refl; key_file = refl; key_and_its_file = refl; file_named_twice = refl; verify_json = refl; keys_json = refl; show_json = refl; mac_json = refl; lines_alone = refl; lines_json = refl; lines_token = refl; access_named = refl; access_twice = refl; access_of_keys = refl; lines_access = refl; expect_named = refl; expect_of_no_text = refl; expect_twice = refl; lines_expect = refl; jwk_alone = refl; jwk_of_a_file = refl; jwk_in_der = refl; jwk_two_kids = refl; jwk_alg_of_secrets = refl; jwk_lines = refl; new_secret = refl; new_public_key = refl; new_secret_of_a_file = refl; new_secret_with_a_kid = refl; secret_of_a_file = refl; secret_with_a_kid = refl; secret_of_no_alg = refl; secret_for_public_keys = refl; policy_alone = refl; policy_with_keys = refl; service_alone = refl; service_beside_a_policy = refl; service_beside_keys = refl; policy_unnamed = refl; policy_twice = refl; policy_lines = refl; pretty_alone = refl; pretty_by_the_clock = refl; pretty_at_a_moment = refl; pretty_in_json = refl; moment_of_plain_show = refl }
