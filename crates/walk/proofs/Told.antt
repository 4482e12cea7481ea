-- Functions that ask nothing and tell one fact of their result: the contract of one, the call of one, and the way from a
-- walk of one to its contract.
-- After the call the caller goes on with the result, what the callee has told of it, its machine value's relation to it, and
-- the tokens. What the callee says of last values is dropped: the callee has no `&mut`.
-- Assumes `Logic`, and that the table of calls is monotone under a frame, as every `Tables` is.
use Prim.Native.Nat.{ℕ}
use mathlib.Core.Path.{◌≡◌}
use mathlib.Core.List.{List, [], ◌∷◌}
use seplogic.Ra.Ura.{Ura}
use mir.Syntax.{Callee, Fn, Place, Opd as Operand, Body, seq, call, copy, place}
use mir.Val.{Val}
use base.Logic.{SProp, ent, emp, via, fst∗, snd∗, ex_e, id⊢}
use base.Fml.{Share, fat}
use prog.Wp.{Env, Calls, Loops, WpFn, Tables, spot_of}
use types.Logic.{Logic, sem}
use contract.Lifetimes.{Lfts, Shares, AllOutlive}
use contract.Monad.{Fun, fact}
use sound.WpLaws.{FmC, WpFn-mono}
use types.Kit.{Item, ‵, raw, nth, ◌⊛◌, some, later, ◌$◌, use0, use1, split, pick, move, drop, await, Post, runs, lands, Seq}
use types.Run.{Opd, Opds, look, load, from, stop}
use denote.Laws.{Are, Is, Ises, Spells, Tellss, shows, valss}
use denote.RattleType.{RattleType, flat}
use denote.Signature.{type_at, types_at}
use denote.Steps.{peeks, heard}
use denote.Triple.Statement.{Contract, Triple}
use denote.Triple.Call.{calls_at}
use denote.Triple.Entry.{Args, Res, alive, on_entry}
use denote.Triple.Spec.{Meets, triple_of}
use denote.Triple.Clauses.{Ended, Clauses, Lasts, AtExit, at_exit, ensured, lasts, closing}
use denote.Triple.Walked.{Stays, AllGo, walk_of, walked, walk_Meets}
use denote.Triple.Weaken.{weaken}

pub record Telling : Type 2 where
  pub ended : Ended
  pub Told : (κs : Lfts ended.signature.lifetimes) → Args ended.signature κs → Res ended.signature κs → Type 0

module _ (f : Telling) {M : Type 1} (𝓤 : Ura M) where
  -- what is promised of a result, that what is told of it gives that, and the contract
  abbrev pub Promise : Type 2
  Promise = (κs : Lfts f.ended.signature.lifetimes) → Args f.ended.signature κs → Res f.ended.signature κs → AtExit f.ended κs → SProp 𝓤

  abbrev pub Gives : Promise → Type 1
  Gives P = (κs : Lfts f.ended.signature.lifetimes) (a : Args f.ended.signature κs) (r : Res f.ended.signature κs) (ws : Lasts f.ended κs a)
      → ent 𝓤 (fact 𝓤 (f.Told κs a r)) (P κs a r (at_exit f.ended κs a ws))

  abbrev pub promising : Promise → Clauses 𝓤 f.ended
  promising P κs a = record { ghost = Unit {0}; requires = λ g. emp 𝓤; ensures = λ g r e. P κs a r e }

  abbrev pub tells : Clauses 𝓤 f.ended
  tells = promising (λ κs a r e. fact 𝓤 (f.Told κs a r))

  module _ (𝓛 : Logic 𝓤) where
    -- what a caller has of it
    open 𝓛 use {H}

    abbrev pub Tells : Contract 𝓤
    Tells = triple_of 𝓛 f.ended.signature (closing 𝓛 f.ended tells)

    module _ {K : Type 0} {Γ : List (Item 𝓤)} {E : Env 𝓤 H} {C : Calls 𝓤 H} {Λ : Loops 𝓤 H} {q : Post 𝓤 H} {n : Callee}
        {xs : List Operand} {d : Place} {rest : Body} where
      pub calls_told : K → FmC 𝓤 H 𝓛.laws C → Triple 𝓤 (C n) Tells → (y : Tells.Ghost) → Opds K 𝓛 (raw (Tells.pre y) ∷ Γ) E xs (Tells.args y)
          → ((u : Val) (r : Res f.ended.signature y.0.0) → f.Told y.0.0 y.0.3 r
          → Is (type_at f.ended.signature.result y.0.0) r (u ∷ [])
          → Seq K 𝓛 (‵ ((type_at f.ended.signature.result y.0.0).own_val r (u ∷ [])) ∷ raw (alive 𝓛 f.ended.signature y.0.0 y.0.1) ∷ Γ)
          (lands C Λ E d u rest q))
          → Seq K 𝓛 (raw (Tells.pre y) ∷ Γ) (runs C Λ E (seq (call n xs d) rest) q)
      calls_told t fm known y os k =
          let R : RattleType = type_at f.ended.signature.result y.0.0 in
          let Fact : R.Denot → Type 0 = f.Told y.0.0 y.0.3 in
          let Tokens : Item 𝓤 = raw (alive 𝓛 f.ended.signature y.0.0 y.0.1) in
          let Said : R.Denot → Item 𝓤 = λ r. raw (ensured 𝓛 f.ended tells y.0.0 y.0.3 tt r) in
          calls_at t fm Tells known y os (λ u.
          use1 𝓛 (later (some (λ (r : R.Denot). (Tokens ⊛ ‵ (R.own_val r (u ∷ []))) ⊛ Said r))) (id⊢ 𝓤 _) $ await t tt $ pick t (λ r.
          split t $ move t (1 ∷ []) $
          use1 𝓛 (raw (fact 𝓤 (Fact r)))
          (ex_e 𝓤 _ (λ ws. snd∗ 𝓤 (sem 𝓛 (lasts f.ended y.0.0 y.0.3 ws)) (fact 𝓤 (Fact r)))) $
          heard t (Fact r) (λ e. split t $ move t (1 ∷ []) $ peeks t R (Is R) (shows 𝓛 R) r (u ∷ []) (λ is. k u r e is))))

      -- the same of one that takes and returns plain values: what it asks is had from nothing, and it has no tokens to keep
      pub calls_plain : K → FmC 𝓤 H 𝓛.laws C → Triple 𝓤 (C n) Tells → (y : Tells.Ghost) → ent 𝓤 (emp 𝓤) (Tells.pre y)
          → Opds K 𝓛 (raw (Tells.pre y) ∷ Γ) E xs (Tells.args y)
          → ((u : Val) (r : Res f.ended.signature y.0.0) → f.Told y.0.0 y.0.3 r
          → Is (type_at f.ended.signature.result y.0.0) r (u ∷ [])
          → Seq K 𝓛 (‵ ((type_at f.ended.signature.result y.0.0).own_val r (u ∷ [])) ∷ Γ) (lands C Λ E d u rest q))
          → Seq K 𝓛 Γ (runs C Λ E (seq (call n xs d) rest) q)
      calls_plain t fm known y asked os k =
          use0 𝓛 (raw (Tells.pre y)) asked $ calls_told t fm known y os (λ u r e is. move t (1 ∷ []) $ drop t $ k u r e is)

    -- a function whose walk ends in what it tells keeps its promise; hs is what the walk has of the parameters at exit
    module _ (hs : Stays f.ended.signature.params f.ended.kept)
        (gs : AllGo 𝓛 f.ended.signature.lifetimes f.ended.signature.params f.ended.kept hs) (𝓣 : Tables 𝓤 H) (code : Fn)
        (sp : (κs : Lfts f.ended.signature.lifetimes) → Spells (types_at f.ended.signature.params κs)) where
      abbrev run : Fun 𝓤
      run = WpFn 𝓤 H 𝓣.C 𝓣.Λ code

      abbrev Rows : Lfts f.ended.signature.lifetimes → List RattleType
      Rows κs = types_at f.ended.signature.params κs

      abbrev Walked : Type 1
      Walked = (κs : Lfts f.ended.signature.lifetimes) (qs : Shares f.ended.signature.lifetimes)
          (bounds : AllOutlive f.ended.signature.lifetimes f.ended.signature.outlives κs) (a : Args f.ended.signature κs)
          → Are (Rows κs) (Ises (Rows κs)) a (valss (Rows κs) (sp κs) a)
          → ent 𝓤 (on_entry 𝓛 f.ended.signature κs qs a (valss (Rows κs) (sp κs) a))
          (run (flat (Rows κs) (valss (Rows κs) (sp κs) a)) ((walk_of 𝓛 f.ended hs tells).post ((κs, qs, bounds, a, valss (Rows κs) (sp κs) a), tt)))

      pub keeps : ((κs : Lfts f.ended.signature.lifetimes) → Tellss (Rows κs) (Ises (Rows κs)) (sp κs)) → Walked → (P : Promise) → Gives P
          → Meets 𝓛 f.ended.signature run (closing 𝓛 f.ended (promising P))
      keeps tl walk P gives =
          weaken 𝓛 f.ended tells (λ κs a g r e. P κs a r e) (λ κs a g r ws. gives κs a r ws) run (WpFn-mono 𝓤 H 𝓛.laws 𝓣 code)
          (walk_Meets 𝓛 f.ended hs gs tells run (WpFn-mono 𝓤 H 𝓛.laws 𝓣 code)
          (walked 𝓛 f.ended hs tells run sp tl (λ κs qs bounds a g are. via 𝓤 _ (fst∗ 𝓤 _ (emp 𝓤)) (walk κs qs bounds a are))))

module _ {M : Type 1} {𝓤 : Ura M} {𝓛 : Logic 𝓤} {K : Type 0} {Γ : List (Item 𝓤)} {E : Env 𝓤 𝓛.H} where
  -- a local as an operand: entry n of the context is its cell
  open 𝓛 use {H}

  pub of_local : K → (n : ℕ) {i : ℕ} {q : Share} {v : Val}
      → nth 𝓛 n Γ ≡ ‵ (fat q (spot_of 𝓤 H E i).0 (spot_of 𝓤 H E i).1 (spot_of 𝓤 H E i).2 v) → Opd K 𝓛 Γ E (copy (place i [])) v
  of_local t n e = load t (from t (stop t)) (look t n e)
