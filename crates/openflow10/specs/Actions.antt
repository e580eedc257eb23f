-- The actions of a flow message, 8 bytes each (OpenFlow 1.0.0, section 5.2.4).
use Rattle.std.specs.Prelude.{ℕ, zero, suc, ◌+◌, ◌-◌, ◌/◌, ◌==◌, ◌&&◌, nat_le, Bool, if◌then◌else◌, List, [], ◌∷◌, ◌++◌, length, Option, Some, None, option_and_then}
use Rattle.std.specs.Option.{option_map}
use Rattle.net_base.specs.declared.ids.Port.{Port}
use Rattle.flow_rules.specs.declared.rules.Rewrite.{Rewrite}
use Rattle.flow_rules.specs.declared.rules.Rewrite.TheVariants.{Keep, Set, Strip}
use Rattle.flow_rules.specs.declared.rules.Action.{Action}
use Rattle.flow_rules.specs.declared.rules.Action.TheVariants.{Discard, Out}
use Rattle.topology.specs.Networks.{is_vlan_id}
use Rattle.openflow10.specs.Layout.{Row, field, number_at}
use Rattle.openflow10.specs.declared.ofp_action.ActionFields.{ActionFields}
use Rattle.openflow10.specs.declared.Verb.{Verb}
use Rattle.openflow10.specs.declared.Verb.TheVariants.{Add, Modify, Remove}

-- an action, from an offset on: its type, its length, the port or the VLAN id, and max_len or a pad
abbrev pub action_table : ℕ → ActionFields → List Row
action_table at a =
    field at 2 a.kind
    ∷ field (at + 2) 2 a.len
    ∷ field (at + 4) 2 a.argument
    ∷ field (at + 6) 2 a.rest
    ∷ []

-- actions one after the other, from an offset on
abbrev pub actions_table : ℕ → List ActionFields → List Row
actions_table at [] = []
actions_table at (a ∷ actions) = action_table at a ++ actions_table (at + 8) actions

-- the action in the bytes, from an offset on
abbrev pub action_at : ℕ → List ℕ → ActionFields
action_at at bytes = record {
  kind = number_at at 2 bytes;
  len = number_at (at + 2) 2 bytes;
  argument = number_at (at + 4) 2 bytes;
  rest = number_at (at + 6) 2 bytes;
}

-- n actions in the bytes, one after the other, from an offset on
abbrev pub actions_at : ℕ → ℕ → List ℕ → List ActionFields
actions_at zero at bytes = []
actions_at (suc n) at bytes = action_at at bytes ∷ actions_at n (at + 8) bytes

-- the actions of a flow message, from byte 72 on to its length
abbrev pub actions_in : List ℕ → List ActionFields
actions_in bytes = actions_at ((number_at 2 2 bytes - 72) / 8) 72 bytes

-- OFPAT_OUTPUT, type 0: to a port, max_len 0
abbrev pub output : Port → ActionFields
output port = record { kind = 0; len = 8; argument = port.0; rest = 0 }

-- OFPAT_SET_VLAN_VID, type 1: an id, and a pad
abbrev pub set_vlan_vid : ℕ → ActionFields
set_vlan_vid id = record { kind = 1; len = 8; argument = id; rest = 0 }

-- OFPAT_STRIP_VLAN, type 3: a pad
abbrev pub strip_vlan : ActionFields
strip_vlan = record { kind = 3; len = 8; argument = 0; rest = 0 }

-- what rewrites the VLAN before an output
abbrev pub rewrite_actions : Rewrite → List ActionFields
rewrite_actions Keep = []
rewrite_actions (Set id) = set_vlan_vid id ∷ []
rewrite_actions Strip = strip_vlan ∷ []

-- the actions of an entry, in order: none discards the packet
abbrev pub actions_of : Action → List ActionFields
actions_of Discard = []
actions_of (Out port rewrite) = rewrite_actions rewrite ++ output port ∷ []

-- the actions of a command: a delete has none
abbrev pub verb_actions : Verb → List ActionFields
verb_actions (Add action) = actions_of action
verb_actions (Modify action) = actions_of action
verb_actions Remove = []

-- whether a number is that of a port of a switch (section 5.2.1)
unfoldable pub is_port : ℕ → Bool
is_port p = nat_le 1 p && nat_le p 65279

-- whether the action is an output to a port
unfoldable pub is_output : ActionFields → Bool
is_output a = (a.kind == 0) && (a.len == 8) && is_port a.argument && (a.rest == 0)

-- whether the action sets an id
unfoldable pub is_set_vlan_vid : ActionFields → Bool
is_set_vlan_vid a = (a.kind == 1) && (a.len == 8) && is_vlan_id a.argument && (a.rest == 0)

-- whether the action strips the tag
unfoldable pub is_strip_vlan : ActionFields → Bool
is_strip_vlan a = (a.kind == 3) && (a.len == 8) && (a.argument == 0) && (a.rest == 0)

-- the port of an output
abbrev pub output_in : ActionFields → Option Port
output_in a = if is_output a then Some (record { 0 = a.argument }) else None

-- the rewrite of an action that stands before an output
abbrev pub rewrite_in : ActionFields → Option Rewrite
rewrite_in a = if is_set_vlan_vid a then Some (Set a.argument) else if is_strip_vlan a then Some Strip else None

-- what an entry does with these actions, where they have one of the forms above
abbrev pub action_in : List ActionFields → Option Action
action_in [] = Some Discard
action_in (a ∷ []) = option_map (λ port. Out port Keep) (output_in a)
action_in (a ∷ b ∷ []) = option_and_then (λ rewrite. option_map (λ port. Out port rewrite) (output_in b)) (rewrite_in a)
action_in _ = None

-- what a command with these actions asks for, where they have one of the forms above
abbrev pub verb_in : ℕ → List ActionFields → Option Verb
verb_in command actions =
    if command == 4
    then if length actions == 0 then Some Remove else None
    else option_map (λ action. if command == 0 then Add action else Modify action) (action_in actions)
