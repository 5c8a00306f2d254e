-- The commands of some examples of words.
use Rattle.std.specs.Prelude.{◌≡◌, [], ◌∷◌, None, Some, true, false, codes}
use Rattle.jwt_mac.specs.declared.algorithm.Alg.TheVariants.{HS256, HS384}
use Rattle.jwt_words.specs.Words.{Jwk, Keys, KidNamed, KidThumbprint, Mac, MacFile, NewSecret, NoKid, Policy, Pretty, Show, Verify, VerifyLines, Version, command_of, no_files}
use Rattle.jwt_settings.specs.declared.printing.Printing.TheVariants.{Json, Lines}

pub record Examples : Type 0 where
  pub key_alone : command_of None (codes "jwt" ∷ codes "mac" ∷ codes "--k" ∷ codes "AA" ∷ []) ≡ Some (Mac (codes "AA") 8192)
  pub key_and_limit : command_of None (codes "jwt" ∷ codes "mac" ∷ codes "--k" ∷ codes "AA" ∷ codes "--limit" ∷ codes "178" ∷ []) ≡ Some (Mac (codes "AA") 178)
  pub key_with_hyphen : command_of None (codes "jwt" ∷ codes "mac" ∷ codes "--k=-AA" ∷ []) ≡ Some (Mac (codes "-AA") 8192)
  pub key_hyphen_apart : command_of None (codes "jwt" ∷ codes "mac" ∷ codes "--k" ∷ codes "-AA" ∷ []) ≡ None
  pub limit_zero : command_of None (codes "jwt" ∷ codes "mac" ∷ codes "--k" ∷ codes "AA" ∷ codes "--limit" ∷ codes "0" ∷ []) ≡ None
  pub limit_plus : command_of None (codes "jwt" ∷ codes "mac" ∷ codes "--k" ∷ codes "AA" ∷ codes "--limit" ∷ codes "+7" ∷ []) ≡ Some (Mac (codes "AA") 7)
  pub no_key : command_of None (codes "jwt" ∷ codes "mac" ∷ []) ≡ None
  pub key_twice : command_of None (codes "jwt" ∷ codes "mac" ∷ codes "--k" ∷ codes "AA" ∷ codes "--k" ∷ codes "BB" ∷ []) ≡ None
  pub no_words : command_of None (codes "jwt" ∷ []) ≡ None
  pub help_flag : command_of None (codes "jwt" ∷ codes "--help" ∷ []) ≡ None
  pub help_word : command_of None (codes "jwt" ∷ codes "help" ∷ codes "mac" ∷ []) ≡ None
  pub mac_help : command_of None (codes "jwt" ∷ codes "mac" ∷ codes "-h" ∷ []) ≡ None
  pub empty_key : command_of None (codes "jwt" ∷ codes "mac" ∷ codes "--k=" ∷ []) ≡ Some (Mac [] 8192)
  pub a_moment : command_of None (codes "jwt" ∷ codes "verify" ∷ codes "--now" ∷ codes "1300819379" ∷ []) ≡ Some (Verify Lines 1300819379 false None no_files)
  pub too_late : command_of None (codes "jwt" ∷ codes "verify" ∷ codes "--now" ∷ codes "9223372036854775808" ∷ []) ≡ None
  pub public_keys : command_of None (codes "jwt" ∷ codes "verify" ∷ codes "--public-keys" ∷ codes "--now" ∷ codes "1300819379" ∷ []) ≡ Some (Verify Lines 1300819379 true None no_files)
  pub public_keys_behind : command_of None (codes "jwt" ∷ codes "verify" ∷ codes "--now" ∷ codes "1300819379" ∷ codes "--public-keys" ∷ []) ≡ Some (Verify Lines 1300819379 true None no_files)
  pub public_keys_twice : command_of None (codes "jwt" ∷ codes "verify" ∷ codes "--now" ∷ codes "7" ∷ codes "--public-keys" ∷ codes "--public-keys" ∷ []) ≡ None
  pub public_keys_of_a_value : command_of None (codes "jwt" ∷ codes "verify" ∷ codes "--now" ∷ codes "7" ∷ codes "--public-keys=true" ∷ []) ≡ None
  pub version : command_of None (codes "jwt" ∷ codes "--version" ∷ []) ≡ Some Version
  pub version_and_more : command_of None (codes "jwt" ∷ codes "--version" ∷ codes "keys" ∷ []) ≡ None
  pub version_of_a_command : command_of None (codes "jwt" ∷ codes "keys" ∷ codes "--version" ∷ []) ≡ None
  pub clock_alone : command_of (Some 1300819379) (codes "jwt" ∷ codes "verify" ∷ []) ≡ Some (Verify Lines 1300819379 false None no_files)
  pub now_before_clock : command_of (Some 7) (codes "jwt" ∷ codes "verify" ∷ codes "--now" ∷ codes "1300819379" ∷ []) ≡ Some (Verify Lines 1300819379 false None no_files)
  pub too_late_with_clock : command_of (Some 7) (codes "jwt" ∷ codes "verify" ∷ codes "--now" ∷ codes "9223372036854775808" ∷ []) ≡ None
  pub no_moment : command_of None (codes "jwt" ∷ codes "verify" ∷ []) ≡ None
  pub files_named : command_of None (codes "jwt" ∷ codes "verify" ∷ codes "--now" ∷ codes "7" ∷ codes "--policy" ∷ codes "p" ∷ codes "--keys=k" ∷ []) ≡ Some (Verify Lines 7 false None (record { policy = Some (codes "p"); keys = Some (codes "k"); access = None; token = None; key = None }))
  pub key_file : command_of None (codes "jwt" ∷ codes "mac" ∷ codes "--key-file" ∷ codes "k" ∷ codes "--limit" ∷ codes "178" ∷ []) ≡ Some (MacFile (codes "k") 178)
  pub key_and_its_file : command_of None (codes "jwt" ∷ codes "mac" ∷ codes "--key-file" ∷ codes "k" ∷ codes "--k" ∷ codes "AA" ∷ []) ≡ None
  pub file_named_twice : command_of None (codes "jwt" ∷ codes "verify" ∷ codes "--now" ∷ codes "7" ∷ codes "--token" ∷ codes "t" ∷ codes "--token" ∷ codes "t" ∷ []) ≡ None
  pub verify_json : command_of None (codes "jwt" ∷ codes "verify" ∷ codes "--json" ∷ codes "--now" ∷ codes "7" ∷ []) ≡ Some (Verify Json 7 false None no_files)
  pub keys_json : command_of None (codes "jwt" ∷ codes "keys" ∷ codes "--json" ∷ []) ≡ Some (Keys Json)
  pub show_json : command_of None (codes "jwt" ∷ codes "show" ∷ codes "--json" ∷ []) ≡ Some (Show Json 8192)
  pub mac_json : command_of None (codes "jwt" ∷ codes "mac" ∷ codes "--k" ∷ codes "AA" ∷ codes "--json" ∷ []) ≡ None
  pub lines_alone : command_of (Some 7) (codes "jwt" ∷ codes "verify" ∷ codes "--lines" ∷ []) ≡ None
  pub lines_json : command_of (Some 7) (codes "jwt" ∷ codes "verify" ∷ codes "--lines" ∷ codes "--json" ∷ codes "--policy=p" ∷ codes "--keys=k" ∷ []) ≡ Some (VerifyLines (record { now = None; public_keys = false; printing = Json; expected = None; files = record { policy = Some (codes "p"); keys = Some (codes "k"); access = None; token = None; key = None } }))
  pub lines_token : command_of (Some 7) (codes "jwt" ∷ codes "verify" ∷ codes "--lines" ∷ codes "--policy=p" ∷ codes "--keys=k" ∷ codes "--token=t" ∷ []) ≡ None
  pub access_named : command_of None (codes "jwt" ∷ codes "verify" ∷ codes "--now" ∷ codes "7" ∷ codes "--access=a" ∷ []) ≡ Some (Verify Lines 7 false None (record no_files { access = Some (codes "a") }))
  pub access_twice : command_of None (codes "jwt" ∷ codes "verify" ∷ codes "--now" ∷ codes "7" ∷ codes "--access" ∷ codes "a" ∷ codes "--access" ∷ codes "b" ∷ []) ≡ None
  pub access_of_keys : command_of None (codes "jwt" ∷ codes "keys" ∷ codes "--access" ∷ codes "a" ∷ []) ≡ None
  pub lines_access : command_of (Some 7) (codes "jwt" ∷ codes "verify" ∷ codes "--lines" ∷ codes "--policy=p" ∷ codes "--keys=k" ∷ codes "--access=a" ∷ []) ≡ Some (VerifyLines (record { now = None; public_keys = false; printing = Lines; expected = None; files = record { policy = Some (codes "p"); keys = Some (codes "k"); access = Some (codes "a"); token = None; key = None } }))
  pub expect_named : command_of None (codes "jwt" ∷ codes "verify" ∷ codes "--now" ∷ codes "7" ∷ codes "--expect" ∷ codes "nonce=a=b" ∷ []) ≡ Some (Verify Lines 7 false (Some (record { claim = codes "nonce"; text = codes "a=b" })) no_files)
  pub expect_of_no_text : command_of None (codes "jwt" ∷ codes "verify" ∷ codes "--now" ∷ codes "7" ∷ codes "--expect" ∷ codes "nonce" ∷ []) ≡ None
  pub expect_twice : command_of None (codes "jwt" ∷ codes "verify" ∷ codes "--now" ∷ codes "7" ∷ codes "--expect=a=b" ∷ codes "--expect=c=d" ∷ []) ≡ None
  pub lines_expect : command_of (Some 7) (codes "jwt" ∷ codes "verify" ∷ codes "--lines" ∷ codes "--policy=p" ∷ codes "--keys=k" ∷ codes "--expect=a=" ∷ []) ≡ Some (VerifyLines (record { now = None; public_keys = false; printing = Lines; expected = Some (record { claim = codes "a"; text = [] }); files = record { policy = Some (codes "p"); keys = Some (codes "k"); access = None; token = None; key = None } }))
  pub jwk_alone : command_of None (codes "jwt" ∷ codes "jwk" ∷ []) ≡ Some (Jwk (record { printing = Lines; der = false; bare = false; kid = NoKid; alg = None; files = no_files }))
  pub jwk_of_a_file : command_of None (codes "jwt" ∷ codes "jwk" ∷ codes "--file=k" ∷ codes "--alg" ∷ codes "RS256" ∷ codes "--kid-thumbprint" ∷ codes "--json" ∷ []) ≡ Some (Jwk (record { printing = Json; der = false; bare = false; kid = KidThumbprint; alg = Some (codes "RS256"); files = record no_files { key = Some (codes "k") } }))
  pub jwk_in_der : command_of None (codes "jwt" ∷ codes "jwk" ∷ codes "--kid" ∷ codes "a" ∷ codes "--der" ∷ codes "--bare" ∷ []) ≡ Some (Jwk (record { printing = Lines; der = true; bare = true; kid = KidNamed (codes "a"); alg = None; files = no_files }))
  pub jwk_two_kids : command_of None (codes "jwt" ∷ codes "jwk" ∷ codes "--kid" ∷ codes "a" ∷ codes "--kid-thumbprint" ∷ []) ≡ None
  pub jwk_alg_of_secrets : command_of None (codes "jwt" ∷ codes "jwk" ∷ codes "--alg" ∷ codes "HS256" ∷ []) ≡ None
  pub jwk_lines : command_of None (codes "jwt" ∷ codes "jwk" ∷ codes "--lines" ∷ []) ≡ None
  pub new_secret : command_of None (codes "jwt" ∷ codes "jwk" ∷ codes "--new" ∷ codes "HS384" ∷ codes "--bare" ∷ []) ≡ Some (NewSecret (record { printing = Lines; bare = true; alg = HS384; kid = None; files = no_files }))
  pub new_public_key : command_of None (codes "jwt" ∷ codes "jwk" ∷ codes "--new" ∷ codes "RS256" ∷ []) ≡ None
  pub new_secret_of_a_file : command_of None (codes "jwt" ∷ codes "jwk" ∷ codes "--new" ∷ codes "HS256" ∷ codes "--file" ∷ codes "k" ∷ []) ≡ None
  pub new_secret_with_a_kid : command_of None (codes "jwt" ∷ codes "jwk" ∷ codes "--new" ∷ codes "HS256" ∷ codes "--kid" ∷ codes "k" ∷ []) ≡ None
  pub secret_of_a_file : command_of None (codes "jwt" ∷ codes "jwk" ∷ codes "--secret" ∷ codes "k" ∷ codes "--alg" ∷ codes "HS256" ∷ []) ≡ Some (NewSecret (record { printing = Lines; bare = false; alg = HS256; kid = None; files = record no_files { key = Some (codes "k") } }))
  pub secret_with_a_kid : command_of None (codes "jwt" ∷ codes "jwk" ∷ codes "--secret" ∷ codes "k" ∷ codes "--kid" ∷ codes "a" ∷ codes "--alg" ∷ codes "HS256" ∷ []) ≡ Some (NewSecret (record { printing = Lines; bare = false; alg = HS256; kid = Some (codes "a"); files = record no_files { key = Some (codes "k") } }))
  pub secret_of_no_alg : command_of None (codes "jwt" ∷ codes "jwk" ∷ codes "--secret" ∷ codes "k" ∷ []) ≡ None
  pub secret_for_public_keys : command_of None (codes "jwt" ∷ codes "jwk" ∷ codes "--secret" ∷ codes "k" ∷ codes "--alg" ∷ codes "RS256" ∷ []) ≡ None
  pub policy_alone : command_of None (codes "jwt" ∷ codes "policy" ∷ codes "--policy=p" ∷ []) ≡ Some (Policy (record { printing = Lines; files = record no_files { policy = Some (codes "p") } }))
  pub policy_with_keys : command_of None (codes "jwt" ∷ codes "policy" ∷ codes "--json" ∷ codes "--keys" ∷ codes "k" ∷ codes "--policy" ∷ codes "p" ∷ []) ≡ Some (Policy (record { printing = Json; files = record no_files { policy = Some (codes "p"); keys = Some (codes "k") } }))
  pub service_alone : command_of None (codes "jwt" ∷ codes "policy" ∷ codes "--service=s" ∷ []) ≡ Some (Policy (record { printing = Lines; files = record no_files { key = Some (codes "s") } }))
  pub service_beside_a_policy : command_of None (codes "jwt" ∷ codes "policy" ∷ codes "--service=s" ∷ codes "--policy=p" ∷ []) ≡ None
  pub service_beside_keys : command_of None (codes "jwt" ∷ codes "policy" ∷ codes "--service=s" ∷ codes "--keys=k" ∷ []) ≡ None
  pub policy_unnamed : command_of None (codes "jwt" ∷ codes "policy" ∷ codes "--keys=k" ∷ []) ≡ None
  pub policy_twice : command_of None (codes "jwt" ∷ codes "policy" ∷ codes "--policy=p" ∷ codes "--policy=p" ∷ []) ≡ None
  pub policy_lines : command_of None (codes "jwt" ∷ codes "policy" ∷ codes "--policy=p" ∷ codes "--lines" ∷ []) ≡ None
  pub pretty_alone : command_of None (codes "jwt" ∷ codes "show" ∷ codes "--pretty" ∷ []) ≡ Some (Pretty (record { limit = 8192; now = None }))
  pub pretty_by_the_clock : command_of (Some 7) (codes "jwt" ∷ codes "show" ∷ codes "--limit=9" ∷ codes "--pretty" ∷ []) ≡ Some (Pretty (record { limit = 9; now = Some 7 }))
  pub pretty_at_a_moment : command_of (Some 7) (codes "jwt" ∷ codes "show" ∷ codes "--pretty" ∷ codes "--now" ∷ codes "1300819379" ∷ []) ≡ Some (Pretty (record { limit = 8192; now = Some 1300819379 }))
  pub pretty_in_json : command_of (Some 7) (codes "jwt" ∷ codes "show" ∷ codes "--pretty" ∷ codes "--json" ∷ []) ≡ None
  pub moment_of_plain_show : command_of (Some 7) (codes "jwt" ∷ codes "show" ∷ codes "--now=7" ∷ []) ≡ None
