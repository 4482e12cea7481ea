-- Document 01, "Events and what each carries": an event is a kind and three numbers. Alert and diode are T-02's and T-05's, of document 02.
use Rattle.std.specs.Prelude.{ℕ, Bool, List, [], ◌∷◌, eqb, get_or}
use Rattle.event.specs.declared.Numbers.{Numbers}
use Rattle.event.specs.declared.Transfer.TheVariants as transfer
use Rattle.event.specs.declared.Event.{Event}
use Rattle.event.specs.declared.Event.TheVariants as event
use Rattle.event.specs.declared.Kind.{Kind}
use Rattle.event.specs.declared.Kind.TheVariants as kind

abbrev pub kind_of : Event → Kind
kind_of (event.Power n) = kind.Power
kind_of (event.Bus (transfer.Write n)) = kind.Write
kind_of (event.Bus (transfer.Point n)) = kind.Point
kind_of (event.Bus (transfer.Read n)) = kind.Read
kind_of (event.Sample n) = kind.Sample
kind_of (event.Tach n) = kind.Tach
kind_of (event.Pin n) = kind.Pin
kind_of (event.Clock n) = kind.Clock
kind_of (event.Period n) = kind.Period
kind_of (event.Alert n) = kind.Alert
kind_of (event.Diode n) = kind.Diode

abbrev pub numbers_of : Event → Numbers
numbers_of (event.Power n) = n
numbers_of (event.Bus (transfer.Write n)) = n
numbers_of (event.Bus (transfer.Point n)) = n
numbers_of (event.Bus (transfer.Read n)) = n
numbers_of (event.Sample n) = n
numbers_of (event.Tach n) = n
numbers_of (event.Pin n) = n
numbers_of (event.Clock n) = n
numbers_of (event.Period n) = n
numbers_of (event.Alert n) = n
numbers_of (event.Diode n) = n

abbrev pub event_of : Kind → Numbers → Event
event_of kind.Power n = event.Power n
event_of kind.Write n = event.Bus (transfer.Write n)
event_of kind.Point n = event.Bus (transfer.Point n)
event_of kind.Read n = event.Bus (transfer.Read n)
event_of kind.Sample n = event.Sample n
event_of kind.Tach n = event.Tach n
event_of kind.Pin n = event.Pin n
event_of kind.Clock n = event.Clock n
event_of kind.Period n = event.Period n
event_of kind.Alert n = event.Alert n
event_of kind.Diode n = event.Diode n

-- every kind, in the order of the table
abbrev pub kinds : List Kind
kinds =
    kind.Power ∷ kind.Write ∷ kind.Point ∷ kind.Read ∷ kind.Sample ∷ kind.Tach ∷ kind.Pin ∷ kind.Clock ∷ kind.Period ∷ kind.Alert ∷ kind.Diode ∷ []

-- the kind at a place of the table; the first one past its end
abbrev pub kind_at : (place : ℕ) → Kind
kind_at place = get_or kinds place kind.Power

-- a kind's place in the table, by which kinds are told apart
abbrev pub place_of : Kind → ℕ
place_of kind.Power = 0
place_of kind.Write = 1
place_of kind.Point = 2
place_of kind.Read = 3
place_of kind.Sample = 4
place_of kind.Tach = 5
place_of kind.Pin = 6
place_of kind.Clock = 7
place_of kind.Period = 8
place_of kind.Alert = 9
place_of kind.Diode = 10

abbrev pub is_kind : Kind → Event → Bool
is_kind k e = eqb (place_of (kind_of e)) (place_of k)
