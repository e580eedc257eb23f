-- The entries of a flow statistics reply, one after the other behind its first 12 bytes (OpenFlow 1.0.0, section 5.3.5).
use Rattle.std.specs.Prelude.{◌≡◌, ℕ, zero, suc, ◌+◌, ◌==◌, ◌&&◌, nat_le, Bool, IsTrue, if◌then◌else◌, List, [], ◌∷◌, length, Option, Some, None, option_map}
use Rattle.openflow10.specs.Layout.{number_at}
use Rattle.openflow10.specs.Actions.{action_at, is_port}
use Rattle.openflow10.specs.declared.ofp_action.ActionFields.{ActionFields}
use Rattle.flow_stats.specs.Layout.{flow_stats_at}
use Rattle.flow_stats.specs.declared.entries.Entry.{Entry}
use Rattle.flow_stats.specs.declared.entries.EntryActions.{EntryActions}
use Rattle.flow_stats.specs.declared.entries.EntryActions.TheVariants.{Empty, Output, Other}

-- whether an action is an output (section 5.2.4): type 0, of 8 bytes, to a port of a switch; max_len is passed over
unfoldable pub is_output : ActionFields → Bool
is_output a = (a.kind == 0) && (a.len == 8) && is_port a.argument

-- the actions of an entry that has one of 8 bytes
abbrev pub actions_of : ActionFields → EntryActions
actions_of a = if is_output a then Output (record { 0 = a.argument }) else Other

-- the actions of an entry of so many bytes, which begin at an offset
abbrev pub actions_in : ℕ → ℕ → List ℕ → EntryActions
actions_in at len bytes =
    if len == 88 then Empty
    else if len == 96 then actions_of (action_at at bytes)
    else Other

-- the entry in the bytes, from an offset on
abbrev pub entry_at : ℕ → List ℕ → Entry
entry_at at bytes = record { fields = flow_stats_at at bytes; actions = actions_in (at + 88) (number_at at 2 bytes) bytes }

-- whether an entry begins at an offset: its fixed part is there, and as many bytes as its length says, which counts that part
unfoldable pub is_entry : ℕ → List ℕ → Bool
is_entry at bytes = nat_le (at + 88) (length bytes) && nat_le 88 (number_at at 2 bytes) && nat_le (at + number_at at 2 bytes) (length bytes)

-- the entry that begins at an offset, where one does
abbrev pub entry_in : ℕ → List ℕ → Option Entry
entry_in at bytes = if is_entry at bytes then Some (entry_at at bytes) else None

-- the entries stand one after the other from an offset to the end of the bytes
abbrev pub Fill : ℕ → List ℕ → List Entry → Type 0
Fill at bytes [] = at ≡ length bytes
Fill at bytes (e ∷ es) = IsTrue (is_entry at bytes) × (e ≡ entry_at at bytes) × Fill (at + e.fields.len) bytes es

-- the entries from an offset to the end, where some fill it; of at most so many entries
abbrev pub entries_from : ℕ → ℕ → List ℕ → Option (List Entry)
entries_from zero at bytes = if at == length bytes then Some [] else None
entries_from (suc most) at bytes =
    if at == length bytes then Some []
    else if is_entry at bytes then option_map (λ es. entry_at at bytes ∷ es) (entries_from most (at + number_at at 2 bytes) bytes)
    else None

-- the entries of a message, where they fill it
unfoldable pub entries_in : List ℕ → Option (List Entry)
entries_in bytes = entries_from (length bytes) 12 bytes
