-- The page of the replies holds after every list. Assumes nothing.
use Prim.Native.Nat.{ℕ, ◌≤◌}
use mathlib.Core.Path.{◌≡◌, refl, ap, ◌∙◌}
use mathlib.Core.Bool.{false, true≢false}
use lib.IntN.{ℤ, pos}
use Rattle.integer.proofs.BoolLaws.{by_cases}
use Rattle.event.specs.Kinds.{is_kind}
use Rattle.event.specs.Answers.{data_of}
use Rattle.event.specs.declared.Refusal.{Refusal}
use Rattle.std.specs.Prelude.{Result, Ok, Err}
use Rattle.event.specs.declared.Event.{Event}
use Rattle.event.specs.declared.Kind.TheVariants as kind
use Rattle.rules.specs.Stored.{own_address, pointer, pin_low}
use Rattle.rules.specs.Replies.{History, taken, accepted, accepts, reply_to}
use Rattle.rules.specs.Temperatures.{latch}
use Rattle.rules.specs.Targets.{flag}
use Rattle.rules.specs.Shows.{answer, shown}
use Rattle.rules.specs.PageWords.{Accepted, data_out, power, write, point}
use Rattle.rules.specs.PageReplies.{PageReplies}
use Rattle.rules.proofs.EventLaws.{arg_lies, val_lies, up_to}
use Rattle.rules.proofs.TakenLaws.{went, took, off_none, refused_is, accepted_is}
use Rattle.rules.proofs.ReplyLaws as reply
use Rattle.rules.proofs.PowerLaws.{none_shown, restart_run, power_left, power_shown, power_image_lem}
use Rattle.rules.proofs.WriteLaws.{others, written}
use Rattle.rules.proofs.ImageLaws.{image_answer_lem, image_byte_lem, image_rest_lem, image_length_lem, image_kept_lem}

-- a refusal has no data
pub no_data : (r : Result ℕ Refusal) → accepts r ≡ false → data_of r ≡ 0
no_data (Ok n) q = absurd (true≢false q)
no_data (Err r) q = refl

module _ (h : History) where
  refusal : (e : Event) → accepted e h ≡ false → data_out e h ≡ 0
  unfolding answer
  refusal e bad = rw bad (no_data (reply_to e (taken h)) bad)

  silent : (e : Event) → is_kind kind.Read e ≡ false → data_out e h ≡ 0
  unfolding answer
  silent e q = by_cases (accepted e h) (λ go. rw (go, q)) (λ bad. refusal e bad)

  -- the diode errors of an accepted power are 0 or 1
  errors_small : (w : ℤ) (a b : ℕ) → Accepted (power w (pos a) (pos b)) h → (a ≤ 1) × (b ≤ 1)
  errors_small w a b go =
      let e = power w (pos a) (pos b) in
      let fine = (went e (taken h) go).range in
      (up_to 1 0 (pos a) (arg_lies e fine 0 refl), up_to 1 0 (pos b) (val_lies e fine 0 refl))

pub page_replies : (h : History) → PageReplies h
unfolding answer pointer pin_low own_address latch flag
page_replies h =
    record {
      powers = reply.powers h;
      writes = reply.writes h;
      points = reply.points h;
      reads = reply.reads h;
      samples = reply.samples h;
      tachs = reply.tachs h;
      pins = reply.pins h;
      clocks = reply.clocks h;
      periods = reply.periods h;
      alerts = reply.alerts h;
      diodes = reply.diodes h;
      refusal = λ e bad. (refusal h e bad, refused_is e h bad);
      silent = silent h;
      handed_out = λ w go. rw go;
      dark = λ off. ap shown (off_none (took h) off) ∙ none_shown;
      pointed_by_write = λ w a v go. rw (accepted_is (write w (pos a) v) h go);
      pointed_by_point = λ w a go. rw (accepted_is (point w (pos a) (pos 0)) h go);
      pointer_stays = λ e go p w q. rw (accepted_is e h go, p, w, q);
      image = λ w a b go.
          let s = errors_small h w a b go in
          rw (accepted_is (power w (pos a) (pos b)) h go) (power_image_lem (taken h) w a b s.0 s.1);
      outputs = λ w a b go.
          let s = errors_small h w a b go in
          rw (accepted_is (power w (pos a) (pos b)) h go) (power_shown (taken h) w a b s.0 s.1);
      address = λ w a v go. rw (accepted_is (power (pos w) a v) h go);
      start = λ w a v go. rw (accepted_is (power w a v) h go) (refl, refl);
      latches = λ w a v c go. rw (accepted_is (power w a v) h go) (refl, refl);
      fans = λ w a b f go.
          let s = errors_small h w a b go in
          rw (accepted_is (power w (pos a) (pos b)) h go)
          (power_left (taken h) w a b s.0 s.1 f, restart_run (power w (pos a) (pos b)) (taken h) refl f);
      written = λ w a b k go q l. rw (accepted_is (write w (pos a) (pos b)) h go) (written (taken h) w a b q k go l);
      others = λ w a b other go q n. rw (accepted_is (write w (pos a) (pos b)) h go) (others (taken h) w a b q other n);
      image_answer = image_answer_lem (taken h);
      image_byte = image_byte_lem (taken h);
      image_rest = image_rest_lem (taken h);
      image_length = image_length_lem (taken h);
      image_kept = image_kept_lem (taken h);
    }
