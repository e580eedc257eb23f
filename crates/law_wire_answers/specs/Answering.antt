-- What an event waits for: replies to barrier requests.
use Rattle.std.specs.Prelude.{◌≡◌, ◌<◌, ℕ, suc, true, false, List, [], ◌∷◌, ◌++◌, slice_get, Some}
use Rattle.std.specs.List.{AllByRecursion}
use Rattle.net_base.specs.declared.ids.SwitchId.{SwitchId}
use Rattle.topology.specs.Networks.{switch_count}
use Rattle.update_model.specs.Changes.{switch_of}
use Rattle.update_model.specs.declared.Change.{Change}
use Rattle.openflow10.specs.Messages.{wire_text}
use Rattle.openflow10.specs.declared.Message.TheVariants.{BarrierRequest}
use Rattle.round_messages.specs.Requests.{is_changed}
use Rattle.switch_session.specs.Fronts.{type_in, xid_in}
use Rattle.switch_session.specs.Laws.{AreCut}
use Rattle.turned_rounds.specs.Batches.{change_messages}
use Rattle.two_way_driver.specs.Drivers.{running_round, asked_round}
use Rattle.two_way_driver.specs.Calls.{DriverView}
use Rattle.two_way_driver.specs.Laws.{Call, Start, Back, Reopen, Feed, Dead, after_calls}
use Rattle.two_way_driver.specs.Sending.{texts_for}
use Rattle.two_way_driver.specs.Words.{after_call_anew}
use Rattle.two_way_driver.specs.declared.DriverEvent.{DriverEvent}
use Rattle.two_way_driver.specs.declared.DriverEvent.TheVariants as logged
use Rattle.two_way_driver.specs.declared.DriverOutput.{DriverOutput}
use Rattle.two_way_driver.specs.declared.DriverOutput.TheVariants.{Send, Failed, Log}
use Rattle.two_way_driver.specs.declared.Stage.{Stage}
use Rattle.two_way_driver.specs.declared.Stage.TheVariants.{Settled, Onward, Undone}
use Rattle.law_wire_answers.specs.Exchanges.{SwitchTalk, dead_then, ways_begun, traffic_behind}

-- ---- requests and replies

-- bytes that came are whole messages, the last of which is a barrier reply (OFPT_BARRIER_REPLY, 19) with this xid
pub record EndsReply (came : List ℕ) (xid : ℕ) : Type 0 where
  pub before : List (List ℕ)
  pub reply : List ℕ
  pub cut : AreCut came (before ++ reply ∷ []) []
  pub is_reply : type_in reply ≡ 19
  pub xid_is : xid_in reply ≡ xid

-- the messages that ask a switch for these changes were sent in a row, and directly behind them the barrier request with this xid
pub record AsksBehind (changes : List Change) (s : SwitchId) (xid : ℕ) (sent : List (List ℕ)) : Type 0 where
  pub before : List (List ℕ)
  pub first : ℕ
  pub behind : List (List ℕ)
  pub sent_are : sent ≡ before ++ (texts_for s (change_messages first changes) ++ wire_text (BarrierRequest xid) ∷ behind)

-- which of the messages that were sent on the present session count
abbrev pub in_round : SwitchTalk → List (List ℕ)
in_round t = t.of_round

abbrev pub on_way : SwitchTalk → List (List ℕ)
on_way t = t.of_way

-- among bytes that come from a switch behind calls, one ends the reply to the barrier request that was sent to it before, behind the messages
-- that ask for these changes
pub record AnswersIn (made : DriverView) (calls : List Call) (s : SwitchId) (bytes : List ℕ) (changes : List Change) (counted : SwitchTalk → List (List ℕ)) : Type 0 where
  pub front : List ℕ
  pub byte : ℕ
  pub rest : List ℕ
  pub bytes_are : bytes ≡ front ++ byte ∷ rest
  pub xid : ℕ
  pub ends : EndsReply ((traffic_behind made s (calls ++ Feed s front ∷ [])).came ++ byte ∷ []) xid
  pub asked : AsksBehind changes s xid (counted (traffic_behind made s (calls ++ Feed s front ∷ [])))

-- a call feeds such bytes
abbrev pub AnswersBy : DriverView → List Call → SwitchId → List Change → (SwitchTalk → List (List ℕ)) → Call → Type 0
AnswersBy made calls s changes counted Start = ⊥
AnswersBy made calls s changes counted Back = ⊥
AnswersBy made calls s changes counted (Reopen t) = ⊥
AnswersBy made calls s changes counted (Dead t) = ⊥
AnswersBy made calls s changes counted (Feed t bytes) = (t.0 ≡ s.0) × AnswersIn made calls s bytes changes counted

-- one of these calls did, and from then on the update goes the same way
pub record HasAnswered (made : DriverView) (calls : List Call) (s : SwitchId) (changes : List Change) : Type 0 where
  pub before : List Call
  pub bytes : List ℕ
  pub behind : List Call
  pub calls_are : calls ≡ before ++ Feed s bytes ∷ behind
  pub same_way : ways_begun made calls ≡ ways_begun made before
  pub answer : AnswersIn made before s bytes changes on_way

-- ---- events

-- the switch isn't dead behind the call
abbrev pub IsAlive : DriverView → List Call → Call → SwitchId → Type 0
IsAlive made calls c s = dead_then s c (traffic_behind made s calls).dead ≡ false

-- the switch of change i of a round, if it isn't dead, answers in this call the barrier request behind these changes of it
pub record AnswersChange (made : DriverView) (calls : List Call) (c : Call) (round : List Change) (i : ℕ) (changes : List Change) (counted : SwitchTalk → List (List ℕ)) : Type 0 where
  pub change : Change
  pub is : slice_get round i ≡ Some change
  pub answered : IsAlive made calls c (switch_of change) → AnswersBy made calls (switch_of change) changes counted c

-- each switch that was asked for one of these changes, but the dead ones, answered in this call, or before since the update goes this way
abbrev pub AllAnswer : DriverView → List Call → Call → List Change → Type 0
AllAnswer made calls c changes =
    (s : SwitchId) → s.0 < switch_count made.net → is_changed changes s ≡ true → IsAlive made calls c s
    → HasAnswered made (calls ++ c ∷ []) s changes

-- the stage in which a call says what it says: a round that it begins or turns is running
abbrev pub stage_in : Stage → Call → Stage
stage_in (Settled k) Start = Onward k
stage_in (Settled (suc k)) Back = Undone k
stage_in (Onward k) Back = Undone k
stage_in stage c = stage

-- an event stands behind the answers for which it waits
abbrev pub IsAnsweredEvent : DriverView → List Call → Call → Stage → DriverEvent → Type 0
IsAnsweredEvent made calls c stage logged.Start = Unit {0}
IsAnsweredEvent made calls c stage (logged.Change i) = AnswersChange made calls c (running_round made.rounds stage) i (running_round made.rounds stage) in_round
IsAnsweredEvent made calls c stage logged.Settle = AllAnswer made calls c (running_round made.rounds stage)
IsAnsweredEvent made calls c stage logged.Back = Unit {0}
IsAnsweredEvent made calls c stage (logged.Undo i) = AnswersChange made calls c (running_round made.rounds stage) i (asked_round made.rounds made.inverses stage) on_way
IsAnsweredEvent made calls c stage logged.SettleBack = AllAnswer made calls c (asked_round made.rounds made.inverses stage)

abbrev pub IsAnsweredWord : DriverView → List Call → Call → Stage → DriverOutput → Type 0
IsAnsweredWord made calls c stage (Send s text) = Unit {0}
IsAnsweredWord made calls c stage (Failed s cause) = Unit {0}
IsAnsweredWord made calls c stage (Log e) = IsAnsweredEvent made calls c stage e

-- all that a call says behind calls of a driver that was just made stands behind the answers for which it waits
abbrev pub SaysAnswered : DriverView → List Call → Call → Type 0
SaysAnswered made calls c =
    let v = after_calls made calls in
    AllByRecursion (IsAnsweredWord made calls c (stage_in v.state.stage c)) (after_call_anew v c).state.said
