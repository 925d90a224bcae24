-- What a discovery is told (RFC 7143, section 4.3 and appendix C).
use Rattle.std.specs.Prelude.{ℕ, Bool, List, length, nat_lt, codes, if◌then◌else◌}
use Rattle.std.specs.List.{flat_map}
use Rattle.oi_negotiate.specs.Keys.{is_text}
use Rattle.oi_sendtargets.specs.Listings.{targets_of}
use Rattle.oi_sendtargets.specs.Payloads.{payload_of}
use Rattle.oi_sendtargets.specs.declared.found.Found.{Found}
use Rattle.oi_text.specs.Pairs.{spelled}
use Rattle.oi_text.specs.declared.pairs.Pair.{Pair}

-- a text of more than 65,536 bytes
abbrev pub is_long : List ℕ → Bool
is_long text = nat_lt 65536 (length text)

-- all targets that are listed; nothing else is asked for
abbrev pub listed : List Found → List ℕ → List ℕ
listed listing value = if is_text value (codes "All") then payload_of (targets_of listing) else spelled (codes "SendTargets") (codes "Reject")

-- the answer to one pair
abbrev pub listing_of : List Found → Pair → List ℕ
listing_of listing p = if is_text p.key (codes "SendTargets") then listed listing p.value else spelled p.key (codes "NotUnderstood")

-- in the order of the request
abbrev pub listing_text : List Found → List Pair → List ℕ
listing_text listing pairs = flat_map (listing_of listing) pairs
