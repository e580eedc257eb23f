-- What a call sends to a switch.
use Rattle.std.specs.Prelude.{◌≡◌, ◌≢◌, ◌⊎◌, ℕ, zero, suc, true, false, ◌==◌, if◌then◌else◌, List, [], ◌∷◌, ◌++◌, length, map, take, drop, filter, filter_map, Option, Some, None, is_some, is_none}
use Rattle.std.specs.Option.{option_map_or}
use Rattle.net_base.specs.declared.ids.SwitchId.{SwitchId}
use Rattle.update_model.specs.Changes.{round_after}
use Rattle.update_model.specs.declared.Change.{Change}
use Rattle.switch_session.specs.Fronts.{front_of, type_in}
use Rattle.switch_session.specs.Channels.{ChannelState, hello, is_open, echo_reply}
use Rattle.switch_session.specs.Laws.{AreRequests}
use Rattle.switch_session.specs.declared.Session.{Session}
use Rattle.switch_session.specs.declared.Session.TheVariants.{Waiting, Open, Failed}
use Rattle.switch_session.specs.declared.fronts.Front.TheVariants.{Message}
use Rattle.turned_rounds.specs.Batches.{xid_behind, batch_of}
use Rattle.turned_rounds.specs.declared.outgoing.Outgoing.{Outgoing}
use Rattle.two_way_driver.specs.Drivers.{peer_at, is_to, asked_round}
use Rattle.two_way_driver.specs.Calls.{DriverView, start_fault, back_fault}
use Rattle.two_way_driver.specs.Laws.{Call, Start, Back, Reopen, Feed, Dead}
use Rattle.two_way_driver.specs.declared.Stage.{Stage}
use Rattle.two_way_driver.specs.declared.Stage.TheVariants.{Settled, Onward, Undone}
use Rattle.two_way_driver.specs.declared.DriverOutput.{DriverOutput}
use Rattle.two_way_driver.specs.declared.DriverOutput.TheVariants.{Send, Failed as Fails, Log}

-- the message that is said to a switch, if one is
abbrev pub text_to : SwitchId → DriverOutput → Option (List ℕ)
text_to s (Send t text) = if t.0 == s.0 then Some text else None
text_to s (Fails t cause) = None
text_to s (Log e) = None

-- the messages to a switch among what was said, in order
abbrev pub texts_to : SwitchId → List DriverOutput → List (List ℕ)
texts_to s said = filter_map (text_to s) said

-- the messages to a switch among those of a round, in order
abbrev pub texts_for : SwitchId → List Outgoing → List (List ℕ)
texts_for s ms = map (λ m. m.text) (filter (is_to s) ms)

-- the session with a switch
abbrev pub session_at : DriverView → SwitchId → Session
session_at v s = (peer_at v.state s).channel.session

-- the changes for which a call asks, if it begins a round in either way, or turns it: nothing where it is refused
abbrev pub start_asks : DriverView → Stage → Option (List Change)
start_asks v (Settled k) = Some (round_after k v.rounds)
start_asks v (Onward k) = None
start_asks v (Undone k) = None

abbrev pub back_asks : DriverView → Stage → Option (List Change)
back_asks v (Settled zero) = None
back_asks v (Settled (suc k)) = Some (round_after k v.inverses)
back_asks v (Onward k) = Some (round_after k v.inverses)
back_asks v (Undone k) = None

abbrev pub asked_by : DriverView → Call → Option (List Change)
asked_by v Start = if is_none (start_fault v) then start_asks v v.state.stage else None
asked_by v Back = if is_none (back_fault v) then back_asks v v.state.stage else None
asked_by v (Reopen s) = None
asked_by v (Feed s bytes) = None
asked_by v (Dead s) = None

-- the messages that ask a switch for these changes, if its session is open; the first message to all switches has the next xid
abbrev pub asking_messages : DriverView → SwitchId → List Change → List (List ℕ)
asking_messages v s changes = if is_open (session_at v s) then texts_for s (batch_of v.net v.state.next changes) else []

-- the messages of the running round to a switch, in the way it goes and with the xids that they had, if it hasn't answered them
abbrev pub unanswered_messages : DriverView → SwitchId → List (List ℕ)
unanswered_messages v s =
    if is_some (peer_at v.state s).asked then texts_for s (batch_of v.net v.state.first (asked_round v.rounds v.inverses v.state.stage))
    else []

-- replies to the echo requests among the messages in bytes that came, to each one and in their order
pub record Replies (came : List ℕ) (after : ChannelState) (texts : List (List ℕ)) : Type 0 where
  pub requests : List (List ℕ)
  pub are : AreRequests came after requests
  pub texts_are : texts ≡ map echo_reply requests

-- at the front of bytes that came stands HELLO
pub record HasHello (came : List ℕ) (n : ℕ) : Type 0 where
  pub front : front_of came ≡ Message n
  pub hello : type_in (take n came) ≡ 0

-- HELLO came: what wasn't answered is sent again, and then replies to what stands behind HELLO
pub record Greets (again : List (List ℕ)) (came : List ℕ) (after : ChannelState) (texts : List (List ℕ)) : Type 0 where
  pub n : ℕ
  pub has : HasHello came n
  pub replies : List (List ℕ)
  pub replied : Replies (drop n came) after replies
  pub texts_are : texts ≡ again ++ replies

-- no HELLO came
pub record StaysClosed (came : List ℕ) (texts : List (List ℕ)) : Type 0 where
  pub none : (n : ℕ) → ¬ HasHello came n
  pub texts_are : texts ≡ []

-- what is sent to a switch when bytes come from it, by its session before: a waiting one opens or not, an open one is replied on, and a failed one is dead
abbrev pub Answers : Session → List (List ℕ) → List ℕ → ChannelState → List (List ℕ) → Type 0
Answers Waiting again came after texts = StaysClosed came texts ⊎ Greets again came after texts
Answers Open again came after texts = Replies came after texts
Answers (Failed c) again came after texts = texts ≡ []

-- what bytes that come from a switch make a driver send to a switch: nothing, if it is another one or dead
pub record SendsFed (before after : DriverView) (from : SwitchId) (bytes : List ℕ) (s : SwitchId) (texts : List (List ℕ)) : Type 0 where
  pub here : from.0 ≡ s.0 → (peer_at before.state s).is_dead ≡ false → Answers (session_at before s) (unanswered_messages before s) ((peer_at before.state s).channel.unread ++ bytes) (peer_at after.state s).channel texts
  pub dead : (peer_at before.state s).is_dead ≡ true → texts ≡ []
  pub others : from.0 ≢ s.0 → texts ≡ []

-- what a call sends to a switch, in order
abbrev pub Sends : DriverView → DriverView → SwitchId → Call → List (List ℕ) → Type 0
Sends before after s Start texts = texts ≡ option_map_or (asking_messages before s) (asked_by before Start) []
Sends before after s Back texts = texts ≡ option_map_or (asking_messages before s) (asked_by before Back) []
Sends before after s (Reopen t) texts = texts ≡ (if t.0 == s.0 then hello ∷ [] else [])
Sends before after s (Feed t bytes) texts = SendsFed before after t bytes s texts
Sends before after s (Dead t) texts = texts ≡ []

-- how the xids go on behind a call: the messages for which it asks have the next ones, one after the other, and keep them; all else takes none
pub record GoesOn (before after : DriverView) (c : Call) : Type 0 where
  pub first : after.state.first ≡ option_map_or (λ changes. before.state.next) (asked_by before c) before.state.first
  pub next : after.state.next ≡ option_map_or (λ changes. xid_behind before.state.next (length (batch_of before.net before.state.next changes))) (asked_by before c) before.state.next
