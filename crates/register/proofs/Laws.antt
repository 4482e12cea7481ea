-- What an entry tells is what the rules' table says. Assumes nothing.
use Rattle.std.proofs.Common.{◌≡◌, ℕ, Bool, true, false, cond, List, [], ◌∷◌, Option, Some, None, refl}
use lib.Dec.{eqb}
use Rattle.rules.specs.Registers.{Row, says, table, exists_at, mask_at, reset_at}
use Rattle.std.specs.Option.{is_some, option_map_or}
use Rattle.register.specs.declared.Listed.{Listed}
use Rattle.register.specs.Entries.{entry_of}

-- a function of what the table says is what the table says of it
says_map : {A B : Type 0} (m : A → B) (f : Row → A) (none : A) (rows : List Row) (a : ℕ) → m (says f none rows a) ≡ says (λ r. m (f r)) (m none) rows a
unfolding says
says_map m f none [] a = refl
says_map m f none (r ∷ rows) a = go (eqb a r.address) (says_map m f none rows a)
  where
    go : (t : Bool) → m (says f none rows a) ≡ says (λ r. m (f r)) (m none) rows a
        → m (cond t (f r) (says f none rows a)) ≡ cond t (m (f r)) (says (λ r. m (f r)) (m none) rows a)
    go true e = refl
    go false e = e

module _ (a : ℕ) where
  pub exists_is : is_some (entry_of a) ≡ exists_at a
  unfolding entry_of exists_at
  exists_is = says_map is_some (λ r. Some (record { mask = r.mask; reset = r.reset })) None table a

  pub mask_is : option_map_or (λ (e : Listed). e.mask) (entry_of a) 0 ≡ mask_at a
  unfolding entry_of mask_at
  mask_is = says_map (λ (o : Option Listed). option_map_or (λ (e : Listed). e.mask) o 0) (λ r. Some (record { mask = r.mask; reset = r.reset })) None table a

  pub reset_is : option_map_or (λ (e : Listed). e.reset) (entry_of a) 0 ≡ reset_at a
  unfolding entry_of reset_at
  reset_is = says_map (λ (o : Option Listed). option_map_or (λ (e : Listed). e.reset) o 0) (λ r. Some (record { mask = r.mask; reset = r.reset })) None table a
