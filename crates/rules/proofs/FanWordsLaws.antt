-- The page's words of fans are the rules': bits, figures, duties, demands. Assumes nothing.
use Prim.Native.Nat.{ℕ, suc, zero, ◌/◌, ◌%◌, ◌<◌}
use mathlib.Core.Path.{◌≡◌, refl, sym, ◌∙◌}
use mathlib.Core.Bool.{Bool, false, ◌&&◌}
use mathlib.Core.List.{List, [], ◌∷◌}
use native.Mathlib.Omega.{arith}
use lib.IntN.{ℤ, pos, negsuc}
use lib.ListN.{get_or}
use borrow.Author.Rules.{rules}
use Rattle.integer.proofs.PackLaws.{bit_0, bit_1}
use Rattle.part.specs.declared.ChannelId.{ChannelId}
use Rattle.part.specs.declared.ChannelId.TheVariants.{Local, Remote1, Remote2}
use Rattle.part.specs.declared.FanId.{FanId}
use Rattle.part.specs.declared.FanId.TheVariants.{One, Two}
use Rattle.rules.specs.Registers.{config1, speeds, characteristics_at, control_at, tach_limit_at, exists_at}
use Rattle.rules.specs.Fields.{assignment, speed_code}
use Rattle.rules.specs.Events.{natural}
use Rattle.rules.specs.Stored.{Taken, stored_at}
use Rattle.rules.specs.Replies.{History, taken}
use Rattle.rules.specs.Targets.{range_of, demand, assigned_by}
use Rattle.rules.specs.Duties.{enabled, tach_on, filtered, rate, rate_of, spin_up_clocks, spin_up_of, left, spin, duty, at_alarm, alarm_bit, fault_bit}
use Rattle.rules.specs.Shows.{status, byte_at, value, shown}
use Rattle.rules.specs.PageWords.{register, by_fan, output_bit, tach_bit, filter_bit, alarm_status, fault_status, duty_out, control, range_figure}
use Rattle.rules.specs.PageWords.{spin_up_figure, rate_figure, minimum_code, assignment_table, is_assigned}
use Rattle.rules.specs.PageDuties.{clocks_left, forced, excess, demanded, to_turn}
use Rattle.rules.proofs.TakenLaws.{took}
use Rattle.rules.proofs.StoredLaws.{byte}
use Rattle.rules.proofs.DiodeLaws.{error_is}
use Rattle.rules.proofs.SoundLaws.{wanted}

-- ---- a table: what holds of each code below n holds of the code that is looked up

abbrev pub Each : ℕ → (ℕ → Type 0) → Type 0
Each zero P = Unit
Each (suc n) P = P 0 × Each n (λ k. P (suc k))

pub at_each : (n : ℕ) (P : ℕ → Type 0) → Each n P → (k : ℕ) → k < n → P k
at_each zero P a k h = absurd (omega arith)
at_each (suc n) P a zero h = a.0
at_each (suc n) P a (suc k) h = at_each n (λ k. P (suc k)) a.1 k (omega arith)

abbrev Alike : (xs ys : List ℕ) (x y code : ℕ) → Type 0
Alike xs ys x y code = get_or xs code x ≡ get_or ys code y

range_is : (b : ℕ) → range_figure b ≡ range_of b
unfolding range_of
range_is b =
    at_each 8 (Alike (5 ∷ 10 ∷ 20 ∷ 40 ∷ 80 ∷ 80 ∷ 80 ∷ 80 ∷ []) (5 ∷ 10 ∷ 20 ∷ 40 ∷ []) 0 80)
    (search rules) (b % 8) (omega arith)

spin_up_of_lem : (b : ℕ) → get_or (2 ∷ 4 ∷ 6 ∷ 8 ∷ 10 ∷ 20 ∷ 40 ∷ 80 ∷ []) (b % 8) 0 ≡ spin_up_of b
unfolding spin_up_of
spin_up_of_lem b =
    at_each 8 (Alike (2 ∷ 4 ∷ 6 ∷ 8 ∷ 10 ∷ 20 ∷ 40 ∷ 80 ∷ []) (2 ∷ 4 ∷ 6 ∷ 8 ∷ 10 ∷ 20 ∷ 40 ∷ []) 0 80)
    (search rules) (b % 8) (omega arith)

abbrev Assigned : FanId → ChannelId → (code : ℕ) → Type 0
Assigned f c code = get_or (assignment_table f) code (λ d. false) c ≡ assigned_by code f c

assigned_each : (f : FanId) (c : ChannelId) → Each 4 (Assigned f c)
unfolding assigned_by
assigned_each One Local = search rules
assigned_each One Remote1 = search rules
assigned_each One Remote2 = search rules
assigned_each Two Local = search rules
assigned_each Two Remote1 = search rules
assigned_each Two Remote2 = search rules

excess_is : (v : ℤ) → excess v ≡ natural v
excess_is (pos n) = refl
excess_is (negsuc n) = refl

-- ---- after a list of events

module _ (h : History) (d : Taken) (is : taken h ≡ d) where
  pub output_is : (f : FanId) → output_bit f h ≡ enabled f d
  unfolding value byte_at exists_at
  output_is One = rw is
  output_is Two = rw is

  pub tach_is : (f : FanId) → tach_bit f h ≡ tach_on f d
  unfolding value byte_at exists_at
  tach_is One = rw is
  tach_is Two = rw is

  pub filter_is : (f : FanId) → filter_bit f h ≡ filtered f d
  unfolding value byte_at exists_at
  filter_is One = rw is
  filter_is Two = rw is

  pub duty_is : (f : FanId) → duty_out f h ≡ (spin f d).duty
  unfolding shown duty
  duty_is One = rw is
  duty_is Two = rw is

  pub left_is : (f : FanId) → clocks_left f h ≡ left (spin f d)
  left_is f = rw is

  pub limit_is : (f : FanId) → register (by_fan 0x10 0x11 f) h ≡ stored_at (tach_limit_at f) d
  unfolding value byte_at exists_at
  limit_is One = rw is
  limit_is Two = rw is

  pub alarm_is : (f : FanId) → alarm_status f h ≡ alarm_bit f d
  unfolding value byte_at exists_at status
  alarm_is One = rw is (bit_0 _ _ _ _ _ _ _ _)
  alarm_is Two = rw is (bit_0 _ _ _ _ _ _ _ _)

  pub fault_is : (f : FanId) → fault_status f h ≡ fault_bit f d
  unfolding value byte_at exists_at status
  fault_is One = rw is (bit_1 _ _ _ _ _ _ _ _)
  fault_is Two = rw is (bit_1 _ _ _ _ _ _ _ _)

  pub characteristics_is : (f : FanId) → register (by_fan 0x20 0x21 f) h ≡ stored_at (characteristics_at f) d
  unfolding value byte_at exists_at
  characteristics_is One = rw is
  characteristics_is Two = rw is

  pub spin_up_is : (f : FanId) → spin_up_figure f h ≡ spin_up_clocks f d
  spin_up_is f = rw characteristics_is (spin_up_of_lem _)

  pub rate_is : rate_figure h ≡ rate d
  unfolding rate_of value byte_at exists_at
  rate_is = rw is (at_each 4 (Alike (1 ∷ 2 ∷ 4 ∷ 8 ∷ []) (1 ∷ 2 ∷ 4 ∷ []) 0 8) (search rules) (stored_at 0x23 d / 32 % 4) (omega arith))

  pub minimum_is : (f : FanId) → minimum_code f h ≡ speed_code f (stored_at speeds d)
  unfolding value byte_at exists_at
  minimum_is One = rw is
  minimum_is Two = rw is (omega (arith, rw is at (byte speeds (took h))))

  pub control_is : (c : ChannelId) → control c h ≡ stored_at (control_at c) d
  unfolding value byte_at exists_at
  control_is Local = rw is
  control_is Remote1 = rw is
  control_is Remote2 = rw is

  pub demanded_is : (f : FanId) (c : ChannelId) → demanded f c h ≡ demand f c d
  unfolding demand
  demanded_is f c = rw (error_is h c, control_is, minimum_is, range_is, excess_is, is)

  pub assigned_is : (f : FanId) (c : ChannelId) → is_assigned f c h ≡ assigned_by (assignment (stored_at config1 d)) f c
  unfolding value byte_at exists_at
  assigned_is f c = rw is (at_each 4 (Assigned f c) (assigned_each f c) (stored_at 0x00 d / 32 % 4) (omega arith))

  -- ---- what the page says of a fan, in the rules' words

  pub enabled_by : (f : FanId) {b : Bool} → output_bit f h ≡ b → enabled f d ≡ b
  enabled_by f q = sym (output_is f) ∙ q

  pub filtered_by : (f : FanId) {b : Bool} → filter_bit f h ≡ b → filtered f d ≡ b
  filtered_by f q = sym (filter_is f) ∙ q

  pub turning_by : (f : FanId) → 0 < duty_out f h → 0 < (spin f d).duty
  turning_by f l = rw duty_is at l

  pub wanted_by : (f : FanId) {b : Bool} → to_turn f h ≡ b → wanted f d ≡ b
  wanted_by f q = rw (← output_is, ← is) q

  pub alarmed_by : (f : FanId) {b : Bool} → (output_bit f h && forced h) ≡ b → at_alarm f d ≡ b
  unfolding at_alarm
  alarmed_by f q = rw (← output_is, ← is) q
