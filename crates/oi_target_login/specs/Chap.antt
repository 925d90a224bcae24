-- The security stage at the target (RFC 7143, sections 6.3.3 and 12.1.3; RFC 1994).
use Rattle.std.specs.Prelude.{ℕ, Bool, true, false, not, ◌&&◌, ◌==◌, Option, Some, None, is_some, List, [], ◌∷◌, length, nat_le, codes, if◌then◌else◌}
use Rattle.std.specs.Fmt.{decimal}
use Rattle.std.specs.List.{list_any, slice_split}
use Rattle.oi_base.specs.declared.login.Mutual.{Mutual}
use Rattle.oi_chap.specs.Chap.{after_words, challenge_bytes, identifier, response}
use Rattle.oi_negotiate.specs.Keys.{is_text}
use Rattle.oi_negotiate.specs.Negotiated.{answer_to}
use Rattle.oi_negotiate.specs.Values.{number_within}
use Rattle.oi_text.specs.Pairs.{text_of}
use Rattle.oi_text.specs.declared.pairs.Pair.{Pair}
use Rattle.rand_chacha.specs.ChaCha.{ChaCha}
use Rattle.oi_target_login.specs.Answers.{binary_text, keyed}
use Rattle.oi_target_login.specs.Names.{authentication_failure, is_word}
use Rattle.oi_target_login.specs.Texts.{binary_bytes, lists}
use Rattle.oi_target_login.specs.declared.chap.Step.{Step}
use Rattle.oi_target_login.specs.declared.chap.Step.TheVariants.{Stands, Fails}
use Rattle.oi_target_login.specs.declared.config.ChapConfig.{ChapConfig}
use Rattle.oi_target_login.specs.declared.config.LoginRules.{LoginRules}
use Rattle.oi_target_login.specs.declared.progress.Auth.{Auth}
use Rattle.oi_target_login.specs.declared.progress.Auth.TheVariants.{Unasked, Chosen, Challenged, Passed}

-- these keys are answered
abbrev pub stands : Auth → List Pair → Step
stands auth keys = Stands auth (text_of keys)

-- what CHAP asks of the initiator; None where nothing is asked of it: a discovery needs no authentication
abbrev pub asked_of : LoginRules → Bool → Option ChapConfig
asked_of r true = None
asked_of r false = r.chap

abbrev pub is_passed : Auth → Bool
is_passed Passed = true
is_passed auth = false

-- no method is offered: a login that has to show who it is may not leave the stage so
abbrev pub unoffered : Bool → Bool → Step
unoffered false transit = stands (if transit then Passed else Unasked) []
unoffered true transit = if transit then Fails authentication_failure else stands Unasked []

-- of the methods that are offered CHAP is taken where it is asked for, else None
abbrev pub offered : Bool → List ℕ → Step
offered false methods =
    if lists (codes "None") methods then stands Passed (keyed (codes "AuthMethod") (codes "None") ∷ [])
    else stands Unasked (keyed (codes "AuthMethod") (codes "Reject") ∷ [])
offered true methods =
    if lists (codes "CHAP") methods then stands Chosen (keyed (codes "AuthMethod") (codes "CHAP") ∷ []) else Fails authentication_failure

abbrev pub by_method : Bool → Bool → Option (List ℕ) → Step
by_method asks transit None = unoffered asks transit
by_method asks transit (Some methods) = offered asks methods

-- the algorithms have 5, which is MD5
abbrev pub has_md5 : List ℕ → Bool
has_md5 algorithms = list_any (λ number. is_some (number_within 5 5 number)) (slice_split (λ b. b == 44) algorithms)

-- the identifier and the challenge that are drawn
abbrev pub challenged : ChaCha → Auth
challenged words = Challenged (identifier words) (challenge_bytes words)

abbrev pub challenge_keys : ℕ → List ℕ → List Pair
challenge_keys id challenge =
    keyed (codes "CHAP_A") (codes "5") ∷ keyed (codes "CHAP_I") (decimal id) ∷ keyed (codes "CHAP_C") (binary_text challenge) ∷ []

abbrev pub by_algorithm : ChaCha → Option (List ℕ) → Step
by_algorithm words None = stands Chosen []
by_algorithm words (Some algorithms) = if has_md5 algorithms then stands (challenged words) (challenge_keys (identifier words) (challenge_bytes words)) else Fails authentication_failure

-- a challenge is drawn where the algorithm is taken
abbrev pub drawn_by : ChaCha → Option (List ℕ) → ChaCha
drawn_by words None = words
drawn_by words (Some algorithms) = if has_md5 algorithms then after_words 5 words else words

abbrev pub is_bytes : Option (List ℕ) → List ℕ → Bool
is_bytes None bytes = false
is_bytes (Some given) bytes = is_text given bytes

abbrev pub bytes_in : Option (List ℕ) → Option (List ℕ)
bytes_in None = None
bytes_in (Some value) = binary_bytes value

-- the initiator shows who it is: its name, and the response to the challenge with its secret
abbrev pub is_proved : ChapConfig → ℕ → List ℕ → List Pair → Bool
is_proved chap id challenge pairs =
    is_word (answer_to (codes "CHAP_N") pairs) chap.user
    && is_bytes (bytes_in (answer_to (codes "CHAP_R") pairs)) (response id chap.secret challenge)

-- an identifier of 8 bits
abbrev pub id_in : Option (List ℕ) → Option ℕ
id_in None = None
id_in (Some text) = number_within 0 255 text

-- the target shows in turn who it is, where it can and is challenged by 1 to 1,024 bytes
abbrev pub shown_by : Mutual → Option ℕ → Option (List ℕ) → List Pair
shown_by wanted None challenge = []
shown_by wanted (Some id) None = []
shown_by wanted (Some id) (Some challenge) =
    if nat_le 1 (length challenge) && nat_le (length challenge) 1024
    then keyed (codes "CHAP_N") wanted.user ∷ keyed (codes "CHAP_R") (binary_text (response id wanted.secret challenge)) ∷ []
    else []

abbrev pub shown : Option Mutual → List Pair → List Pair
shown None pairs = []
shown (Some wanted) pairs = shown_by wanted (id_in (answer_to (codes "CHAP_I") pairs)) (bytes_in (answer_to (codes "CHAP_C") pairs))

abbrev pub proved : Option ChapConfig → ℕ → List ℕ → List Pair → Step
proved None id challenge pairs = Fails authentication_failure
proved (Some chap) id challenge pairs = if is_proved chap id challenge pairs then stands Passed (shown chap.mutual pairs) else Fails authentication_failure

-- a request of the security stage
abbrev pub secured : Option ChapConfig → Auth → Bool → ChaCha → List Pair → Step
secured chap Unasked transit words pairs = by_method (is_some chap) transit (answer_to (codes "AuthMethod") pairs)
secured chap Chosen transit words pairs = by_algorithm words (answer_to (codes "CHAP_A") pairs)
secured chap (Challenged id challenge) transit words pairs = proved chap id challenge pairs
secured chap Passed transit words pairs = stands Passed []

abbrev pub drawn : Auth → ChaCha → List Pair → ChaCha
drawn Chosen words pairs = drawn_by words (answer_to (codes "CHAP_A") pairs)
drawn auth words pairs = words

-- the operational stage may begin a login that need not show who it is
abbrev pub unsecured : Bool → Auth → Step
unsecured asks auth = if asks && not (is_passed auth) then Fails authentication_failure else stands Passed []
