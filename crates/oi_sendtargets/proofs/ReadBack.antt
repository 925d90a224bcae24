-- What was written reads as it was given.
use Rattle.std.proofs.Common.{◌≡◌, ◌<◌, ◌≤◌, ◌+◌, ◌*◌, ◌^◌, ◌∙◌, ◌==◌, ℕ, suc, zero, Bool, true, false, cond, Some, None, List, [], ◌∷◌, ◌++◌, length, not, nat_eq, refl, sym, ap, subst, arith, inl, inr, length-append}
use Rattle.std.specs.Fmt.{decimal}
use Rattle.std.specs.Cmp.Lexicographic.{pointwise}
use Rattle.std.proofs.lemmas.Bool.Decides.{nat_tests}
use Rattle.std.proofs.lemmas.Fmt.{length-decimal-le}
use Rattle.std.proofs.lemmas.Slice.Eq.{bytes_eq-Decides}
use Rattle.oi_base.specs.Decimal.{IsNumber}
use Rattle.oi_names.specs.Grammars.{IsLed}
use Rattle.oi_names.specs.Names.{IsName, IsNameRest, is_name_byte, iqn, eui, naa}
use Rattle.oi_names.specs.Portals.{IsAddress, IsBracketed, IsDotted, IsEndpoint, IsPortal, IsPortalOf, is_inner, portal_text}
use Rattle.oi_names.specs.declared.portal.Portal.{Portal}
use Rattle.oi_names.proofs.Alphabets.{Lacks, NoDigit, lacks_all, lacks_append, lacks_number}
use Rattle.oi_names.proofs.Readings as readings
use Rattle.oi_names.proofs.Runs.{and_both}
use Rattle.oi_text.specs.Pairs.{IsPair, ArePairs}
use Rattle.oi_sendtargets.specs.declared.found.Found.{Found}
use Rattle.oi_sendtargets.specs.Payloads.{target_name, target_address, Target, listing_pairs, payload_of, AreNamed}
use Rattle.oi_sendtargets.specs.Listings.{address_text, target_at, joined, targets_of, AreGiven, IsAddressOf, AddressGives, NameGives, TargetGives, IsFound, IsReadable, AreReadable}

-- names and addresses as values of pairs

-- so many bytes at most, and none of them zero
record IsShort (most : ℕ) (w : List ℕ) : Type 0 where
  fits : length w ≤ most
  free : Lacks 0 w

no_digit_zero : NoDigit 0
no_digit_zero n small = grind (arith, nat_tests)

short_number : (low high k : ℕ) (w : List ℕ) → 0 < k → high < 10 ^ k → high < 2 ^ 64 → IsNumber low high w → IsShort k w
short_number low high k w some digits small (n, from, to, is) = record {
  fits = omega (arith, ap length is, length-decimal-le k n some (omega arith) (omega arith));
  free = lacks_number 0 no_digit_zero low high small w (n, from, to, is);
}

short_joined : (a b c : ℕ) (x y w : List ℕ) → w ≡ x ++ c ∷ y → not (c == 0) ≡ true → IsShort a x → IsShort b y → IsShort (a + b + 1) w
short_joined a b c x y w is byte front back = record {
  fits = omega (arith, ap length is, length-append x (c ∷ y), front.fits, back.fits);
  free = subst (λ (z : List ℕ). Lacks 0 z) (sym is) (lacks_append 0 x (c ∷ y) front.free (and_both (not (c == 0)) _ byte back.free));
}

wider : (a b : ℕ) (w : List ℕ) → a ≤ b → IsShort a w → IsShort b w
wider a b w le short = record { fits = omega (arith, short.fits); free = short.free }

octet : (w : List ℕ) → IsNumber 0 255 w → IsShort 3 w
octet w is = short_number 0 255 3 w (omega arith) (omega arith) (omega arith) is

short_dotted : (dots : ℕ) (w : List ℕ) → IsDotted dots w → IsShort (3 + 4 * dots) w
short_dotted zero w is = octet w is
short_dotted (suc dots) w (front, back, e, first, more) =
    wider (3 + (3 + 4 * dots) + 1) (3 + 4 * suc dots) w (omega arith) (short_joined 3 (3 + 4 * dots) 46 front back w e refl (octet front first) (short_dotted dots back more))

short_bracketed : (w : List ℕ) → IsBracketed w → IsShort 41 w
short_bracketed w (rest, is, (i, j, e, run, none)) =
    let whole : w ≡ 91 ∷ (i ++ 93 ∷ []) = is ∙ ap (λ (z : List ℕ). 91 ∷ z) (e ∙ ap (λ (z : List ℕ). i ++ 93 ∷ z) none) in
    record {
      fits = omega (arith, ap length whole, length-append i (93 ∷ []), run.1);
      free = subst (λ (z : List ℕ). Lacks 0 z) (sym whole) (lacks_append 0 i (93 ∷ []) (lacks_all is_inner 0 refl i run.2) refl);
    }

short_address : (w : List ℕ) → IsAddress w → IsShort 41 w
short_address w (inl dotted) = wider 15 41 w (omega arith) (short_dotted 3 w dotted)
short_address w (inr bracketed) = short_bracketed w bracketed

short_endpoint : (w : List ℕ) → IsEndpoint w → IsShort 47 w
short_endpoint w (inl address) = wider 41 47 w (omega arith) (short_address w address)
short_endpoint w (inr (front, back, e, address, port)) = short_joined 41 5 58 front back w e refl (short_address front address) (short_number 1 65535 5 back (omega arith) (omega arith) (omega arith) port)

short_portal : (w : List ℕ) → IsPortal w → IsShort 53 w
short_portal w (inl endpoint) = wider 47 53 w (omega arith) (short_endpoint w endpoint)
short_portal w (inr (front, back, e, endpoint, tag)) = short_joined 47 5 44 front back w e refl (short_endpoint front endpoint) (short_number 0 65535 5 back (omega arith) (omega arith) (omega arith) tag)

short_led : (head w : List ℕ) → length head ≤ 4 → Lacks 0 head → IsLed head IsNameRest w → IsShort 223 w
short_led head w four free (rest, is, run) = record {
  fits = omega (arith, ap length is, length-append head rest, run.1);
  free = subst (λ (z : List ℕ). Lacks 0 z) (sym is) (lacks_append 0 head rest free (lacks_all is_name_byte 0 refl rest run.2));
}

short_name : (w : List ℕ) → IsName w → IsShort 223 w
short_name w (inl led) = short_led iqn w (omega arith) refl led
short_name w (inr (inl led)) = short_led eui w (omega arith) refl led
short_name w (inr (inr led)) = short_led naa w (omega arith) refl led

name_pair : (w : List ℕ) → IsName w → IsPair target_name w
name_pair w is =
    let short = short_name w is in
    record { key_some = omega arith; key_fits = omega arith; key_bytes = refl; value_fits = omega (arith, short.fits); value_bytes = short.free }

address_pair : (w : List ℕ) → IsPortal w → IsPair target_address w
address_pair w is =
    let short = short_portal w is in
    record { key_some = omega arith; key_fits = omega arith; key_bytes = refl; value_fits = omega (arith, short.fits); value_bytes = short.free }

-- an address that is written

with_tag : (address : List ℕ) (port tag : ℕ) → tag ≤ 65535 → IsPortalOf address port None (portal_text address port) → IsPortalOf address port (Some tag) (portal_text address port ++ 44 ∷ decimal tag)
with_tag address port tag small (host, lower, (is, (front, has, whole))) = (host, lower, (is, (front, has, (ap (λ (z : List ℕ). z ++ 44 ∷ decimal tag) whole, small))))

written_portal : (f : Found) → IsReadable f → IsPortalOf f.portal.address f.portal.port (Some f.tag) (address_text f)
written_portal f readable =
    let again = readings.again readable.portal.0 f.portal.address f.portal.port readable.portal.1 readable.portal.2 in
    with_tag f.portal.address f.portal.port f.tag readable.tag again

written_address : (f : Found) → IsReadable f → IsAddressOf f (address_text f)
written_address f readable = (Some f.tag, written_portal f readable, refl)

written_pair : (f : Found) → IsReadable f → IsPair target_address (address_text f)
written_pair f readable = address_pair (address_text f) (readings.word (address_text f) f.portal.address f.portal.port (Some f.tag) (written_portal f readable))

-- one portal more in front

-- each target has an address
abbrev AreReached : List Target → Type 0
AreReached [] = Unit {0}
AreReached (t ∷ ts) = (0 < length t.addresses) × AreReached ts

-- the targets tell these portals, and can be written
record IsWritten (asked : Portal) (targets : List Target) (found : List Found) : Type 0 where
  pairs : ArePairs (listing_pairs targets)
  names : AreNamed targets
  reached : AreReached targets
  given : AreGiven (TargetGives asked) targets found

addresses_give : (asked : Portal) (name : List ℕ) (addresses : List (List ℕ)) (found : List Found) → 0 < length addresses → NameGives asked name addresses found → AreGiven (AddressGives name) addresses found
addresses_give asked name [] found some gives = absurd (omega arith)
addresses_give asked name (address ∷ more) found some gives = gives

alone : (asked : Portal) (f : Found) (ts : List Target) (fs : List Found) → IsReadable f → IsWritten asked ts fs → IsWritten asked (target_at f.target (f ∷ []) ∷ ts) (f ∷ fs)
alone asked f ts fs readable written = record {
  pairs = (name_pair f.target readable.name, (written_pair f readable, written.pairs));
  names = (readable.name, written.names);
  reached = (omega arith, written.reached);
  given = (f ∷ [], fs, refl, (f ∷ [], [], refl, inr (f, refl, refl, written_address f readable), refl), written.given);
}

first : (asked : Portal) (f : Found) (t : Target) (ts : List Target) (fs : List Found) → IsReadable f → t.name ≡ f.target → IsWritten asked (t ∷ ts) fs
    → IsWritten asked (record { name = t.name; addresses = address_text f ∷ t.addresses } ∷ ts) (f ∷ fs)
first asked f t ts fs readable same written = record {
  pairs = (written.pairs.0, (written_pair f readable, written.pairs.1));
  names = written.names;
  reached = (omega arith, written.reached.1);
  given = first_gives written.given;
}
  where
    first_gives : AreGiven (TargetGives asked) (t ∷ ts) fs → AreGiven (TargetGives asked) (record { name = t.name; addresses = address_text f ∷ t.addresses } ∷ ts) (f ∷ fs)
    first_gives (here, more, whole, gives, others) = (
      f ∷ here,
      more,
      ap (λ (z : List Found). f ∷ z) whole,
      (f ∷ [], here, refl, inr (f, refl, sym same, written_address f readable), addresses_give asked t.name t.addresses here written.reached.0 gives),
      others,
    )

joined_by : (asked : Portal) (f : Found) (t : Target) (ts : List Target) (fs : List Found) (b : Bool) → pointwise nat_eq t.name f.target ≡ b → IsReadable f → IsWritten asked (t ∷ ts) fs
    → IsWritten asked (cond b (record { name = t.name; addresses = address_text f ∷ t.addresses } ∷ ts) (target_at f.target (f ∷ []) ∷ t ∷ ts)) (f ∷ fs)
joined_by asked f t ts fs true e readable written = first asked f t ts fs readable ((bytes_eq-Decides t.name f.target).0 e) written
joined_by asked f t ts fs false e readable written = alone asked f (t ∷ ts) fs readable written

more_written : (asked : Portal) (f : Found) (ts : List Target) (fs : List Found) → IsReadable f → IsWritten asked ts fs → IsWritten asked (joined f ts) (f ∷ fs)
more_written asked f [] fs readable written = alone asked f [] fs readable written
more_written asked f (t ∷ ts) fs readable written = joined_by asked f t ts fs (pointwise nat_eq t.name f.target) refl readable written

all_written : (asked : Portal) (found : List Found) → AreReadable found → IsWritten asked (targets_of found) found
all_written asked [] readable = record { pairs = tt; names = tt; reached = tt; given = refl }
all_written asked (f ∷ fs) readable = more_written asked f (targets_of fs) fs readable.0 (all_written asked fs readable.1)

pub read_back : (found : List Found) (asked : Portal) → AreReadable found → IsFound (payload_of (targets_of found)) asked found
read_back found asked readable =
    let written = all_written asked found readable in
    let targets = targets_of found in (
      listing_pairs targets,
      record { pairs = written.pairs; whole = refl },
      (targets, record { whole = refl; names = written.names }, written.given),
    )
