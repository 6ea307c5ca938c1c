use Rattle.std.proofs.Common.{rules, ◌≡◌, ◌+◌, ◌*◌, ◌≤◌, ◌∙◌, ℕ, arith, drop, length, subst, sym, take}
use Rattle.samples.specs.jack_types.specs.declared.files.Format.{Format}
use Rattle.samples.specs.session_model.specs.WaveFiles.{frame_bytes}
use Rattle.wave_pcm.specs.Readings.{Gave, Gives}
use Rattle.wave_pcm.proofs.FrameLemmas.{fewer_samples, gave_more, gives_short, rest_more, same_reading-trans, within_buffer, within_size}
use Rattle.wave_pcm.proofs.wave.Wave.frames_into.Goals as goal

pub read_at-requires-clause-told : goal.read_at-requires-clause-told
read_at-requires-clause-told g c =
    let format = c.args.self.now.format in
    let now = c.reading.invariant.same in
    let le : c.reading.done + c.min-count.result ≤ c.frames_left-frames.result = omega (arith, c.min-count.ensures, c.reading-test.true) in
    let fits = within_size format c.args.self.now.given c.args.self.now.size (c.reading.done + c.min-count.result) c.frames_left-frames.result le c.frames_left-frames.ensures.told in
    subst (λ (f : Format). c.reading.self.given + c.min-count.result * frame_bytes f ≤ c.reading.self.size) (sym now.format)
    (omega (arith, c.reading.invariant.given, fits, now.size))

pub returns-then-got-count-clause-samples : goal.returns-then-got-count-clause-samples
returns-then-got-count-clause-samples g c =
    let format = c.args.self.now.format in
    let now = c.reading.invariant.same in
    let done = c.reading.done * format.channels in
    let got = c.in_ok-got.got * format.channels in
    let front : take done c.read_at.new.out ≡ take done c.reading.out = subst (λ (f : Format). take (c.reading.done * f.channels) c.read_at.new.out ≡ take (c.reading.done * f.channels) c.reading.out) now.format c.in_ok-got.ensures.front in
    let gives : Gives c.reading.self.left c.read_at.new.self.left got (c.min-count.result * format.channels) (drop done c.read_at.new.out) =
    subst (λ (f : Format). Gives c.reading.self.left c.read_at.new.self.left (c.in_ok-got.got * f.channels) (c.min-count.result * f.channels) (drop (c.reading.done * f.channels) c.read_at.new.out)) now.format c.in_ok-got.ensures.samples in
    let less = fewer_samples format c.in_ok-got.got c.min-count.result c.frames_left-frames.ensures.some c.if-got-count.true in
    let room = within_buffer format (length c.args.out.now) (c.reading.done + c.in_ok-got.got) c.frames_left-frames.result (omega (arith, c.min-count.ensures, c.reading-test.true, c.if-got-count.true)) c.frames_left-frames.ensures.room in
    let sum : done + got ≡ (c.reading.done + c.in_ok-got.got) * format.channels = omega arith in
    subst (λ (n : ℕ). Gives c.args.self.now.left c.read_at.new.self.left n (length c.args.out.now) c.read_at.new.out) sum
    (gives_short c.args.self.now.left c.reading.self.left c.read_at.new.self.left done got (c.min-count.result * format.channels) (length c.args.out.now) c.reading.out c.read_at.new.out c.reading.invariant.gave front gives less (omega (arith, room, sum)))

pub returns-then-got-count-clause-rest : goal.returns-then-got-count-clause-rest
returns-then-got-count-clause-rest g c =
    let format = c.args.self.now.format in
    let done = c.reading.done * format.channels in
    let got = c.in_ok-got.got * format.channels in
    let sum : (c.reading.done + c.in_ok-got.got) * format.channels ≡ done + got = omega arith in
    let rest : drop (done + got) c.read_at.new.out ≡ drop (done + got) c.reading.out =
    subst (λ (n : ℕ). drop n c.read_at.new.out ≡ drop n c.reading.out) sum
    (subst (λ (f : Format). drop ((c.reading.done + c.in_ok-got.got) * f.channels) c.read_at.new.out ≡ drop ((c.reading.done + c.in_ok-got.got) * f.channels) c.reading.out) c.reading.invariant.same.format c.in_ok-got.ensures.rest) in
    subst (λ (n : ℕ). drop n c.read_at.new.out ≡ drop n c.args.out.now) (sym sum) (rest_more c.args.out.now c.reading.out c.read_at.new.out done got rest c.reading.invariant.rest)

pub returns-then-got-count-clause-limit : goal.returns-then-got-count-clause-limit
returns-then-got-count-clause-limit g c =
    let format = c.args.self.now.format in
    let le : c.reading.done + c.in_ok-got.got ≤ c.frames_left-frames.result = omega (arith, c.min-count.ensures, c.reading-test.true, c.if-got-count.true) in
    let fits = within_size format c.args.self.now.given c.args.self.now.size (c.reading.done + c.in_ok-got.got) c.frames_left-frames.result le c.frames_left-frames.ensures.told in
    let more = subst (λ (f : Format). c.read_at.new.self.given ≡ c.reading.self.given + c.in_ok-got.got * frame_bytes f) c.reading.invariant.same.format c.in_ok-got.ensures.given in
    omega (arith, fits, more, c.reading.invariant.given, c.frames_left-frames.ensures.most)

pub reading-preserved : goal.reading-preserved
reading-preserved g c =
    let format = c.args.self.now.format in
    let now = c.reading.invariant.same in
    let done = c.reading.done * format.channels in
    let count = c.min-count.result * format.channels in
    let all : c.in_ok-got.got ≡ c.min-count.result = omega (arith, c.in_ok-got.ensures.bound, c.if-got-count.false) in
    let sum : done + count ≡ (c.reading.done + c.min-count.result) * format.channels = omega arith in
    let front : take done c.read_at.new.out ≡ take done c.reading.out = subst (λ (f : Format). take (c.reading.done * f.channels) c.read_at.new.out ≡ take (c.reading.done * f.channels) c.reading.out) now.format c.in_ok-got.ensures.front in
    let gives : Gives c.reading.self.left c.read_at.new.self.left count count (drop done c.read_at.new.out) =
    subst (λ (n : ℕ). Gives c.reading.self.left c.read_at.new.self.left (n * format.channels) count (drop done c.read_at.new.out)) all
    (subst (λ (f : Format). Gives c.reading.self.left c.read_at.new.self.left (c.in_ok-got.got * f.channels) (c.min-count.result * f.channels) (drop (c.reading.done * f.channels) c.read_at.new.out)) now.format c.in_ok-got.ensures.samples) in
    let rest : drop (done + count) c.read_at.new.out ≡ drop (done + count) c.reading.out =
    subst (λ (n : ℕ). drop n c.read_at.new.out ≡ drop n c.reading.out) (sym sum)
    (subst (λ (n : ℕ). drop ((c.reading.done + n) * format.channels) c.read_at.new.out ≡ drop ((c.reading.done + n) * format.channels) c.reading.out) all
    (subst (λ (f : Format). drop ((c.reading.done + c.in_ok-got.got) * f.channels) c.read_at.new.out ≡ drop ((c.reading.done + c.in_ok-got.got) * f.channels) c.reading.out) now.format c.in_ok-got.ensures.rest)) in
    let more : c.read_at.new.self.given ≡ c.reading.self.given + c.min-count.result * frame_bytes format =
    subst (λ (n : ℕ). c.read_at.new.self.given ≡ c.reading.self.given + n * frame_bytes format) all
    (subst (λ (f : Format). c.read_at.new.self.given ≡ c.reading.self.given + c.in_ok-got.got * frame_bytes f) now.format c.in_ok-got.ensures.given) in
    record {
      within = omega (arith, c.min-count.ensures, c.reading-test.true);
      gave = subst (λ (n : ℕ). Gave c.args.self.now.left c.read_at.new.self.left n c.read_at.new.out) sum (gave_more c.args.self.now.left c.reading.self.left c.read_at.new.self.left done count count c.reading.out c.read_at.new.out c.reading.invariant.gave front gives);
      rest = subst (λ (n : ℕ). drop n c.read_at.new.out ≡ drop n c.args.out.now) sum (rest_more c.args.out.now c.reading.out c.read_at.new.out done count rest c.reading.invariant.rest);
      given = omega (arith, more, c.reading.invariant.given);
      going = search rules;
      same = same_reading-trans c.args.self.now c.reading.self c.read_at.new.self now c.in_ok-got.ensures.same;
      kept = (rw c.in_ok-got.was at c.read_at.ensures.cause.kept) ∙ c.reading.invariant.kept;
    }
