-- What pairs that may sign sign with, what that costs, and what is answered of it.
use Rattle.std.proofs.Common.{◌≡◌, ◌≢◌, ℕ, ◌+◌, ◌<◌, ◌≤◌, Bool, true, false, not, cond, nat_lt, ◌==◌, List, [], ◌∷◌, ◌++◌, length, get_or, map, take, drop, Option, Some, None, Result, Ok, Err, Vec, IfOk, IsUtf8, refl, sym, ap, ap₂, subst, ◌∙◌, arith}
use Rattle.std.proofs.lemmas.List.{map_more, at_drop_more}
use Rattle.std.proofs.lemmas.Bool.Decides.{nat_tests}
use Rattle.std.specs.Global.{Global}
use Rattle.serde_json.specs.Data.{object}
use Rattle.serde_json.specs.Written.{compact_text}
use Rattle.jwt_text.specs.Answers.{Answers, unless}
use Rattle.jwt_text.specs.Base64url.{spelling}
use Rattle.jwt_text.specs.declared.limits.TheConstants.{LONGEST_TOKEN}
use Rattle.jwt_issue.specs.Issued.{PairParts, SignerParts, header, may_sign, or_else, unfit, first_unfit, first_spent, token_within, signer_of, signing_cost, pair_signing_cost, pair_costs}
use Rattle.jwt_mac.specs.Algorithm.{is_hmac_alg}
use Rattle.jwt_issue.specs.declared.fault.IssueFault.{IssueFault}
use Rattle.jwt_issue.specs.declared.fault.IssueFault.TheVariants.{OutOfMemory, NoKey, TooManySignatures, AlgNotHmac, KeyUnfit, TooLong, Spent}
use Rattle.jwt_issue.specs.Paying.{Pays}

-- ---- one pair

pub fit_answer : {A : Type 0} (fault : Option IssueFault) (s t : A) → unless fault (Ok s) ≡ Ok t → (fault ≡ None) × (s ≡ t)
fit_answer None s t e = (refl, cc)
fit_answer (Some f) s t e = absurd (cc e)

pub same_cost : (typ : Option (List ℕ)) (claims : List ℕ) (pair : PairParts) (payload : List ℕ) (s : SignerParts)
    → unless (unfit 0 pair) (Ok (signer_of typ pair)) ≡ Ok s → spelling claims ≡ payload
    → signing_cost payload s ≡ pair_signing_cost typ claims pair
same_cost typ claims pair payload s e p = sym (ap₂ signing_cost p (fit_answer (unfit 0 pair) (signer_of typ pair) s e).1)

pub same_answer : (token : List ℕ → SignerParts → List ℕ) (left : ℕ) (typ : Option (List ℕ)) (claims : List ℕ) (pair : PairParts) (payload : List ℕ) (s : SignerParts)
    → unless (unfit 0 pair) (Ok (signer_of typ pair)) ≡ Ok s → spelling claims ≡ payload
    → token_within left (signing_cost payload s ∷ []) (token payload s)
    ≡ unless (unfit 0 pair) (token_within left (pair_signing_cost typ claims pair ∷ []) (token (spelling claims) (signer_of typ pair)))
same_answer token left typ claims pair payload s e p =
    let fit = fit_answer (unfit 0 pair) (signer_of typ pair) s e in
    let answer : List ℕ → SignerParts → Result (List ℕ) IssueFault = λ q t. token_within left (signing_cost q t ∷ []) (token q t) in
    sym (ap (λ (f : Option IssueFault). unless f (answer (spelling claims) (signer_of typ pair))) fit.0 ∙ ap₂ answer p fit.1)

-- ---- what is said of a token, of what is answered

by_tests : (beyond : Bool) (spent : Option IssueFault) (token t : List ℕ) → cond beyond (Err TooLong) (unless spent (Ok token)) ≡ Ok t → token ≡ t
by_tests true spent token t e = absurd (cc e)
by_tests false None token t e = cc
by_tests false (Some fault) token t e = absurd (cc e)

token_of : (fault : Option IssueFault) (left : ℕ) (costs token t : List ℕ) → unless fault (token_within left costs token) ≡ Ok t → token ≡ t
unfolding token_within
token_of None left costs token t e = by_tests (nat_lt LONGEST_TOKEN (length token)) (first_spent 0 left costs) token t e
token_of (Some fault) left costs token t e = absurd (cc e)

pub answered : (P : List ℕ → Type 0) (r : Result (Vec ℕ Global) IssueFault) (fault : Option IssueFault) (left : ℕ) (costs token : List ℕ)
    → Answers OutOfMemory (λ (v : Vec ℕ Global). v.items) r (unless fault (token_within left costs token)) → P token → IfOk r (λ (v : Vec ℕ Global). P v.items)
answered P (Ok v) fault left costs token a p = subst P (token_of fault left costs token v.items a) p
answered P (Err e) fault left costs token a p = tt

-- ---- a list of pairs

pub same_costs : (typ : Option (List ℕ)) (claims : List ℕ) (pairs : List PairParts)
    → map (signing_cost (spelling claims)) (map (signer_of typ) pairs) ≡ pair_costs typ claims pairs
same_costs typ claims [] = refl
same_costs typ claims (pair ∷ pairs) = ap (λ (costs : List ℕ). pair_signing_cost typ claims pair ∷ costs) (same_costs typ claims pairs)

pub signers_costs : (typ : Option (List ℕ)) (claims : List ℕ) (pairs : List PairParts) (payload : List ℕ) (ss : List SignerParts)
    → map (signer_of typ) pairs ≡ ss → spelling claims ≡ payload → map (signing_cost payload) ss ≡ pair_costs typ claims pairs
signers_costs typ claims pairs payload ss e p =
    sym (ap₂ (λ (q : List ℕ) (ts : List SignerParts). map (signing_cost q) ts) p e) ∙ same_costs typ claims pairs

pub signers_answer : (token : List ℕ → List SignerParts → List ℕ) (left : ℕ) (typ : Option (List ℕ)) (claims : List ℕ) (pairs : List PairParts) (payload : List ℕ) (ss : List SignerParts)
    → first_unfit 0 pairs ≡ None → map (signer_of typ) pairs ≡ ss → spelling claims ≡ payload
    → token_within left (map (signing_cost payload) ss) (token payload ss)
    ≡ unless (first_unfit 0 pairs) (token_within left (pair_costs typ claims pairs) (token (spelling claims) (map (signer_of typ) pairs)))
signers_answer token left typ claims pairs payload ss fit e p =
    let answer : List ℕ → List ℕ → Result (List ℕ) IssueFault = λ costs t. token_within left costs t in
    ap₂ answer (signers_costs typ claims pairs payload ss e p) (sym (ap₂ token p e))
    ∙ sym (ap (λ (f : Option IssueFault). unless f (answer (pair_costs typ claims pairs) (token (spelling claims) (map (signer_of typ) pairs)))) fit)

-- ---- the loop that makes signers

-- the text of a pair's header is UTF-8
abbrev pub IsUtf8Header : Option (List ℕ) → PairParts → Type 0
IsUtf8Header typ pair = IsUtf8 (compact_text (object (header typ pair)))

pub unfit_at : (pairs : List PairParts) (i : ℕ) (pair : PairParts) → i < length pairs → pair ≡ get_or pairs i pair
    → first_unfit i (drop i pairs) ≡ first_unfit i (pair ∷ drop (i + 1) pairs)
unfit_at pairs i pair within e =
    at_drop_more (λ (ps : List PairParts). first_unfit i ps) pairs i pair within
    ∙ ap (λ (p : PairParts). first_unfit i (p ∷ drop (i + 1) pairs)) (sym e)

pub next_fits : (pairs : List PairParts) (i : ℕ) (pair : PairParts) → i < length pairs → pair ≡ get_or pairs i pair → unfit i pair ≡ None
    → first_unfit i (drop i pairs) ≡ first_unfit (i + 1) (drop (i + 1) pairs)
next_fits pairs i pair within e fit = let here = unfit_at pairs i pair within e in rw fit at here

pub next_unfit : (pairs : List PairParts) (i : ℕ) (pair : PairParts) (fault : IssueFault) → i < length pairs → pair ≡ get_or pairs i pair → unfit i pair ≡ Some fault
    → first_unfit i (drop i pairs) ≡ Some fault
next_unfit pairs i pair fault within e unfit = let here = unfit_at pairs i pair within e in rw unfit at here

pub signers_more : (f : PairParts → SignerParts) (pairs : List PairParts) (i : ℕ) (pair : PairParts) → i < length pairs → pair ≡ get_or pairs i pair
    → map f (take (i + 1) pairs) ≡ map f (take i pairs) ++ f pair ∷ []
signers_more f pairs i pair within e =
    map_more f pairs i pair within ∙ ap (λ (p : PairParts). map f (take i pairs) ++ f p ∷ []) (sym e)

pub fit_refuses : {A : Type 0} (found : Option IssueFault) (s : A) (fault : IssueFault) → unless found (Ok s) ≡ Err fault → found ≡ Some fault
fit_refuses None s fault e = absurd (cc e)
fit_refuses (Some f) s fault e = cc

-- ---- a pair that may not sign isn't one that can't be paid

tested : (b c : Bool) (i j : ℕ) → cond (not b) (Some (AlgNotHmac i)) (cond (not c) (Some (KeyUnfit i)) None) ≢ Some (Spent j)
tested true true i j e = cc e
tested true false i j e = cc e
tested false c i j e = cc e

unfit_unspent : (i j : ℕ) (pair : PairParts) → unfit i pair ≢ Some (Spent j)
unfolding unfit
unfit_unspent i j pair = tested (is_hmac_alg pair.alg) (may_sign pair) i j

either_unspent : (first later : Option IssueFault) (j : ℕ) → first ≢ Some (Spent j) → later ≢ Some (Spent j) → or_else first later ≢ Some (Spent j)
either_unspent None later j p q = q
either_unspent (Some fault) later j p q = p

first_unspent : (i j : ℕ) (pairs : List PairParts) → first_unfit i pairs ≢ Some (Spent j)
first_unspent i j [] = λ e. cc e
first_unspent i j (pair ∷ pairs) =
    either_unspent (unfit i pair) (first_unfit (i + 1) pairs) j (unfit_unspent i j pair) (first_unspent (i + 1) j pairs)

pub signer_unspent : (pair : PairParts) (s : SignerParts) (fault : IssueFault) (j : ℕ)
    → (fault ≢ OutOfMemory → unless (unfit 0 pair) (Ok s) ≡ Err fault) → fault ≢ Spent j
signer_unspent pair s fault j answer e =
    let some : fault ≢ OutOfMemory = λ memory. cc in
    unfit_unspent 0 j pair (fit_refuses (unfit 0 pair) s fault (answer some) ∙ ap Some e)

pub signers_unspent : (typ : Option (List ℕ)) (pairs : List PairParts) (ss : List SignerParts) (fault : IssueFault) (j : ℕ)
    → (fault ≢ OutOfMemory → unless (first_unfit 0 pairs) (Ok ss) ≡ Err fault) → fault ≢ Spent j
signers_unspent typ pairs ss fault j answer e =
    let some : fault ≢ OutOfMemory = λ memory. cc in
    first_unspent 0 j pairs (fit_refuses (first_unfit 0 pairs) ss fault (answer some) ∙ ap Some e)

pub none_paid : (X : Type 0) (fault : IssueFault) (all : ℕ) (Q : ℕ → Type 0) → ((j : ℕ) → fault ≢ Spent j) → Q 0 → Pays {X = X} (Err fault) all Q
none_paid X OutOfMemory all Q unspent none = (0, omega arith, none)
none_paid X (Spent j) all Q unspent none = absurd (unspent j refl)
none_paid X (AlgNotHmac j) all Q unspent none = none
none_paid X (KeyUnfit j) all Q unspent none = none
none_paid X NoKey all Q unspent none = none
none_paid X TooManySignatures all Q unspent none = none
none_paid X TooLong all Q unspent none = none

-- ---- how many pairs there are

pub some_pairs : (pairs : List PairParts) (answer : Result (List ℕ) IssueFault) → 0 < length pairs → length pairs ≤ 32
    → answer ≡ cond (length pairs == 0) (Err NoKey) (cond (nat_lt 32 (length pairs)) (Err TooManySignatures) answer)
some_pairs pairs answer some few =
    let not_none : (length pairs == 0) ≡ false = grind (arith, nat_tests) in
    let not_many : nat_lt 32 (length pairs) ≡ false = grind (arith, nat_tests) in
    rw (not_none, not_many)
