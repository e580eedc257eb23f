-- The message at the front of bytes that came from a switch (OpenFlow 1.0.0, section 5.1).
use Rattle.std.specs.Prelude.{ℕ, ◌==◌, ◌&&◌, ◌||◌, not, nat_lt, Bool, if◌then◌else◌, List, length}
use Rattle.openflow10.specs.Layout.{number_at}
use Rattle.switch_session.specs.declared.Cause.TheVariants as cause
use Rattle.switch_session.specs.declared.fronts.Front.{Front}
use Rattle.switch_session.specs.declared.fronts.Front.TheVariants.{Short, Fault, Message}

-- the fields of a header
abbrev pub version_in : List ℕ → ℕ
version_in bytes = number_at 0 1 bytes

abbrev pub type_in : List ℕ → ℕ
type_in bytes = number_at 1 1 bytes

abbrev pub length_in : List ℕ → ℕ
length_in bytes = number_at 2 2 bytes

abbrev pub xid_in : List ℕ → ℕ
xid_in bytes = number_at 4 4 bytes

-- version 0, or another than 1 in a message that isn't OFPT_HELLO (0)
abbrev pub is_wrong_version : ℕ → ℕ → Bool
is_wrong_version version type = (version == 0) || (not (version == 1) && not (type == 0))

-- shorter than a header, an OFPT_BARRIER_REPLY (19) that is more than one, or an OFPT_ERROR (1) without its type and code
abbrev pub is_wrong_length : ℕ → ℕ → Bool
is_wrong_length type said = nat_lt said 8 || ((type == 19) && not (said == 8)) || ((type == 1) && nat_lt said 12)

-- what a header means where so many bytes have come: the version is looked at first, and then the length
abbrev pub by_header : ℕ → ℕ → ℕ → ℕ → Front
by_header version type said come =
    if is_wrong_version version type then Fault cause.Version
    else if is_wrong_length type said then Fault cause.Length
    else if nat_lt come said then Short
    else Message said

-- what stands at the front of bytes: too little, a header that ends the session, or a whole message
unfoldable pub front_of : List ℕ → Front
front_of bytes =
    if nat_lt (length bytes) 8 then Short
    else by_header (version_in bytes) (type_in bytes) (length_in bytes) (length bytes)
