-- Kinds and their places in the table; an event by its kind; the size of a reply number. Assumes nothing.
use Prim.Native.Nat.{ℕ, zero, suc, ◌<◌}
use mathlib.Core.Bool.{Bool, true, false, ◌&&◌, true≢false}
use mathlib.Core.Path.{◌≡◌, refl, sym, ap, subst}
use mathlib.Core.Logic.{inl, inr}
use mathlib.Core.List.{List, [], ◌∷◌}
use denote.Struct.Field.{Field}
use denote.Struct.Values.{Values}
use denote.Enum.Declared.{Choice, Record}
use native.Mathlib.Omega.{arith}
use lib.Dec.{ltb}
use borrow.Author.Tests.{ltb-true}
use lib.ListN.{length}
use Rattle.event.specs.declared.Numbers.{Numbers}
use Rattle.event.specs.declared.Transfer.{Transfer}
use Rattle.event.specs.contracts.Transfer.{enum as transfer-enum}
use Rattle.event.specs.declared.Event.{Event}
use Rattle.event.specs.contracts.Event.{enum as event-enum}
use Rattle.event.specs.declared.Event.TheVariants as event
use Rattle.event.specs.declared.Kind.{Kind}
use Rattle.event.specs.contracts.Kind.{enum as kind-enum}
use Rattle.event.specs.declared.Refusal.{Refusal}
use Rattle.event.specs.contracts.Refusal.{enum as refusal-enum}
use Rattle.std.specs.Prelude.{Result, Ok, Err}
use Rattle.event.specs.Answers.{refusal_number, number_of}
use Rattle.event.specs.Kinds.{kind_of, numbers_of, event_of, kinds, kind_at, place_of}

-- what holds of each variant of a declared enum, one by one, holds of every value
abbrev Every : (Fss : List (List Field)) → (Choice Fss → Type 0) → Type 0
Every [] P = Unit {0}
Every (Fs ∷ Fss) P = ((v : Values Fs) → P (inl v)) × Every Fss (λ c. P (inr c))

at_variant : (Fss : List (List Field)) (P : Choice Fss → Type 0) → Every Fss P → (c : Choice Fss) → P c
at_variant [] P all c = absurd c
at_variant (Fs ∷ Fss) P all (inl v) = all.0 v
at_variant (Fs ∷ Fss) P all (inr c) = at_variant Fss (λ c. P (inr c)) all.1 c

pub by_variants : (N : Record) (P : N.D → Type 0) → Every N.parts (λ c. P (N.make c)) → (d : N.D) → P d
by_variants N P all d = subst P (N.eta d) (at_variant N.parts (λ c. P (N.make c)) all (N.as_values d))

-- what a function gives at each variant, in their order
abbrev Rows : List (List Field) → Type 0 → Type 0
Rows [] X = Unit {0}
Rows (Fs ∷ Fss) X = (Values Fs → X) × Rows Fss X

abbrev rows : {X : Type 0} (Fss : List (List Field)) → (Choice Fss → X) → Rows Fss X
rows [] f = tt
rows (Fs ∷ Fss) f = (λ v. f (inl v), rows Fss (λ c. f (inr c)))

same_row : {X : Type 0} (Fss : List (List Field)) (f g : Choice Fss → X) → rows Fss f ≡ rows Fss g → (c : Choice Fss) → f c ≡ g c
same_row [] f g q c = absurd c
same_row (Fs ∷ Fss) f g q (inl v) = ap (λ t. t.0 v) q
same_row (Fs ∷ Fss) f g q (inr c) = same_row Fss (λ c. f (inr c)) (λ c. g (inr c)) (ap (λ t. t.1) q) c

-- two functions with the same rows are the same: one computed equation for every value
pub by_rows : (N : Record) {X : Type 0} (f g : N.D → X) → rows N.parts (λ c. f (N.make c)) ≡ rows N.parts (λ c. g (N.make c)) → (d : N.D) → f d ≡ g d
by_rows N f g q d = subst (λ d. f d ≡ g d) (N.eta d) (same_row N.parts (λ c. f (N.make c)) (λ c. g (N.make c)) q (N.as_values d))

-- a kind stands at its place
pub kind_back : (k : Kind) → kind_at (place_of k) ≡ k
kind_back = by_rows kind-enum (λ k. kind_at (place_of k)) (λ k. k) refl

pub place_small : (k : Kind) → place_of k < length kinds
place_small k = ltb-true (place_of k) (length kinds) (by_rows kind-enum (λ k. ltb (place_of k) (length kinds)) (λ k. true) refl k)

-- what holds at each of the first n places, one by one, holds at any of them
abbrev pub Each : (ℕ → Type 0) → ℕ → Type 0
Each P zero = Unit {0}
Each P (suc n) = P 0 × Each (λ p. P (suc p)) n

pub at_place : (P : ℕ → Type 0) (n : ℕ) → Each P n → (p : ℕ) → p < n → P p
at_place P zero all p h = absurd (omega arith)
at_place P (suc n) all zero h = all.0
at_place P (suc n) all (suc p) h = at_place (λ p. P (suc p)) n all.1 p (omega arith)

-- a test that each of the first n places passes
unfoldable pub passes : (ℕ → Bool) → ℕ → Bool
passes test zero = true
passes test (suc n) = test 0 && passes (λ p. test (suc p)) n

both : (a b : Bool) → (a && b) ≡ true → (a ≡ true) × (b ≡ true)
both true b y = (refl, y)
both false b y = absurd (true≢false (sym y))

pub passed : (test : ℕ → Bool) (n : ℕ) → passes test n ≡ true → (p : ℕ) → p < n → test p ≡ true
unfolding passes
passed test zero y p h = absurd (omega arith)
passed test (suc n) y zero h = (both (test 0) (passes (λ p. test (suc p)) n) y).0
passed test (suc n) y (suc p) h = passed (λ p. test (suc p)) n (both (test 0) (passes (λ p. test (suc p)) n) y).1 p (omega arith)

-- and what holds at each place of the table holds of every kind
pub every_kind : (P : Kind → Type 0) → Each (λ p. P (kind_at p)) (length kinds) → (k : Kind) → P k
every_kind P all k = rw (kind_back k) at (at_place (λ p. P (kind_at p)) (length kinds) all (place_of k) (place_small k))

-- an event is its kind and its numbers
transfer_back : (t : Transfer) → event_of (kind_of (event.Bus t)) (numbers_of (event.Bus t)) ≡ event.Bus t
transfer_back = by_rows transfer-enum (λ t. event_of (kind_of (event.Bus t)) (numbers_of (event.Bus t))) event.Bus refl

pub event_back : (e : Event) → event_of (kind_of e) (numbers_of e) ≡ e
event_back = by_variants event-enum (λ e. event_of (kind_of e) (numbers_of e) ≡ e) (search transfer_back depth 30)

pub event_made : {e : Event} {k : Kind} {n : Numbers} → kind_of e ≡ k → numbers_of e ≡ n → e ≡ event_of k n
event_made {e} hk hn = rw (← hk, ← hn) (sym (event_back e))

-- no reply number has more than three digits
refusal_small : (r : Refusal) → refusal_number r < 1000
refusal_small r = ltb-true (refusal_number r) 1000 (by_rows refusal-enum (λ r. ltb (refusal_number r) 1000) (λ r. true) refl r)

pub number_small : (a : Result ℕ Refusal) → number_of a < 1000
number_small (Ok d) = omega arith
number_small (Err r) = refusal_small r
