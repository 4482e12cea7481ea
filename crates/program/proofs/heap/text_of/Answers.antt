use Rattle.std.proofs.Common.{◌≡◌, ◌<◌, ◌≤◌, ◌∙◌, ◌++◌, length, take, arith}
use Rattle.std.proofs.lemmas.List.{length-append, length-take-le}
use Rattle.program.proofs.Filling.{joined}
use Rattle.program.proofs.Growing.{grown, kept_whole, none_gone, full_text, full_rest, ended_text, ended_rest}
use Rattle.program.proofs.heap.text_of.Goals.{in-Ok+else-got-eq0, in-Err+else-ne}
use Rattle.program.proofs.heap.text_of.Goals as goal

pub returns-then-len-ge-ROOM-clause-text : goal.returns-then-len-ge-ROOM-clause-text
returns-then-len-ge-ROOM-clause-text g c = full_text _ _ _ c.loop.invariant.1 (omega (arith, c.loop.invariant, c.len-len.ensures, c.if-len-ge-ROOM.true))

pub returns-then-len-ge-ROOM-clause-rest : goal.returns-then-len-ge-ROOM-clause-rest
returns-then-len-ge-ROOM-clause-rest g c = full_rest _ _ _ c.loop.invariant.1 (omega (arith, c.loop.invariant, c.len-len.ensures, c.if-len-ge-ROOM.true))

pub returns-then-got-eq0-clause-text : goal.returns-then-got-eq0-clause-text
returns-then-got-eq0-clause-text g c =
    let text = c.loop.text.items in
    let held : c.len-len.result ≡ length text = omega (arith, c.len-len.ensures) in
    let longer : c.len-len.result ≤ c.min.result = omega (arith, c.min.ensures, c.if-len-ge-ROOM.false) in
    let resized = c.deref_mut.ensures.value ∙ c.in_ok-resize.ensures.items in
    let all : c.resize.new.self.len ≡ length c.deref_mut.result.now = omega (arith, c.deref_mut.ensures.len) in
    let buf = c.read.new.buf in
    let got = c.in-Ok.got in
    let items = c.truncate.ensures.items ∙ grown text _ held longer resized buf c.resize.new.self.items all c.read.auto.buf got c.in-Ok.ensures.bound.0 in
    let room : 0 < length buf = omega (arith, c.read.auto.buf, c.deref_mut.ensures.len, c.in_ok-resize.ensures.len, c.min.ensures, c.if-len-ge-ROOM.false) in
    let fits : length (text ++ take got buf) ≤ 65537 =
    omega (arith, length-append text (take got buf), length-take-le got buf c.in-Ok.ensures.bound.0, c.if-got-eq0.true, c.loop.invariant) in
    rw items (ended_text _ _ _ fits (joined _ _ _ _ _ c.loop.invariant.1 c.in-Ok.ensures.bytes.0) (c.in-Ok.ensures.bytes.1 c.if-got-eq0.true room))

pub returns-then-got-eq0-clause-rest : goal.returns-then-got-eq0-clause-rest
returns-then-got-eq0-clause-rest g c =
    let text = c.loop.text.items in
    let buf = c.read.new.buf in
    let got = c.in-Ok.got in
    let room : 0 < length buf =
    omega (arith, c.read.auto.buf, c.deref_mut.ensures.len, c.in_ok-resize.ensures.len, c.min.ensures, c.len-len.ensures, c.if-len-ge-ROOM.false) in
    let fits : length (text ++ take got buf) ≤ 65537 =
    omega (arith, length-append text (take got buf), length-take-le got buf c.in-Ok.ensures.bound.0, c.if-got-eq0.true, c.loop.invariant) in
    ended_rest _ _ _ fits (joined _ _ _ _ _ c.loop.invariant.1 c.in-Ok.ensures.bytes.0) (c.in-Ok.ensures.bytes.1 c.if-got-eq0.true room)

pub loop-preserved : goal.loop-preserved
loop-preserved g c =
    let text = c.loop.text.items in
    let held : c.len-len.result ≡ length text = omega (arith, c.len-len.ensures) in
    let longer : c.len-len.result ≤ c.min.result = omega (arith, c.min.ensures, c.if-len-ge-ROOM.false) in
    let resized = c.deref_mut.ensures.value ∙ c.in_ok-resize.ensures.items in
    let long : length c.deref_mut.result.now ≡ c.min.result = omega (arith, c.deref_mut.ensures.len, c.in_ok-resize.ensures.len) in
    let all : c.resize.new.self.len ≡ length c.deref_mut.result.now = omega (arith, c.deref_mut.ensures.len) in
    let buf = c.read.new.buf in
    elim c.match-read.branch [
      | in-Ok+else-got-eq0 w ↦
          let got = w.in-Ok.got in
          let within = w.in-Ok.ensures.bound.0 in
          let items = w.truncate.ensures.items ∙ grown text _ held longer resized buf c.resize.new.self.items all c.read.auto.buf got within in
          let fits : length (text ++ take got buf) ≤ 65537 =
          omega (arith, length-append text (take got buf), length-take-le got buf within, within, c.read.auto.buf, held, longer, long, c.min.ensures) in
          rw (w.text-is, items) (fits, joined _ _ _ _ _ c.loop.invariant.1 w.in-Ok.ensures.bytes.0)
      | in-Err+else-ne w ↦
          let items = w.truncate-in-Err.ensures.items ∙ kept_whole text _ held longer resized buf c.resize.new.self.items all c.read.auto.buf in
          rw (w.text-is, items) (c.loop.invariant.0, none_gone _ _ _ _ c.loop.invariant.1 w.in-Err.ensures.bytes)
    ]
