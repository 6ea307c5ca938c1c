use Rattle.std.proofs.Common.{◌≡◌, ◌+◌, ◌*◌, ◌<◌, ◌≤◌, Bool, List, [], ◌∷◌, ◌++◌, length, get_or, if◌then◌else◌, sym, ◌∙◌, ap, subst, arith}
use Rattle.std.proofs.lemmas.Nat.{mul-le}
use Rattle.std.proofs.lemmas.Option.{none-some}
use Rattle.jack_types.specs.Recorders.{no_format}
use Rattle.jack_types.specs.declared.files.Format.{Format}
use Rattle.jack_types.specs.declared.scripts.Header.{Header}
use Rattle.driver_words.specs.Rings.{Getting}
use Rattle.recorder_files.specs.Recorders.{Recording}
use Rattle.session_ends.proofs.PairLemmas.{AreMade, bare-made, end-is, end-next, few-channels, made-more, made-none, over-end}
use Rattle.session_ends.proofs.opening.make_recorders.Goals as goal

pub unreachable-requires : goal.unreachable-requires
unreachable-requires g c =
    let formats = c.as_slice-formats.ensures.value ∙ ap (λ (h : Header). h.recorders) c.header-header.ensures.value in
    let there = subst (λ (fs : List Format). c.loop-recorder.recorder < length fs) formats c.loop-recorder-test.true in
    let end = end-next c.args.script.now.header.recorders _ _ _ c.args.driver.now c.loop-recorder.driver c.loop-recorder.recorder c.loop-recorder.made.items c.requires.rings c.loop-recorder.invariant there c.consumer.result c.consumer.ensures.end in
    none-some end.0 (sym c.in_default.is ∙ end.1)

pub overflow_mul-samples : goal.overflow_mul-samples
overflow_mul-samples g c =
    let formats = c.as_slice-formats.ensures.value ∙ ap (λ (h : Header). h.recorders) c.header-header.ensures.value in
    let there = subst (λ (fs : List Format). c.loop-recorder.recorder < length fs) formats c.loop-recorder-test.true in
    let channels = c.from.ensures ∙ ap (λ (fs : List Format). (get_or fs c.loop-recorder.recorder no_format).channels) formats in
    let few = few-channels c.args.script.now c.requires.lawful c.loop-recorder.recorder there in
    let product = mul-le c.greatest_period-period.result c.from.result 4096 8 c.greatest_period-period.ensures.high (subst (λ n. n ≤ 8) (sym channels) few) in
    omega (arith, product)

pub new-requires : goal.new-requires
new-requires g c =
    let formats = c.as_slice-formats.ensures.value ∙ ap (λ (h : Header). h.recorders) c.header-header.ensures.value in
    let there = subst (λ (fs : List Format). c.loop-recorder.recorder < length fs) formats c.loop-recorder-test.true in
    let channels = c.from.ensures ∙ ap (λ (fs : List Format). (get_or fs c.loop-recorder.recorder no_format).channels) formats in
    let end = end-is c.args.script.now.header.recorders _ _ _ c.args.driver.now c.loop-recorder.driver c.loop-recorder.recorder c.loop-recorder.made.items c.requires.rings c.loop-recorder.invariant there c.consumer.result c.in-Some.consumer c.consumer.ensures.end c.in-Some.is in
    ap (λ (got : Getting). got.samples) end.getting_is
    ∙ ap (λ n. n * (get_or c.args.script.now.header.recorders c.loop-recorder.recorder no_format).channels) (sym c.greatest_period-period.ensures.greatest)
    ∙ ap (λ n. c.greatest_period-period.result * n) (sym channels)

pub loop-recorder-init : goal.loop-recorder-init
loop-recorder-init g c = subst (λ (made : List Recording). AreMade c.args.script.now.header.recorders c.args.driver.now c.args.driver.now 0 made) (sym c.new-made.ensures.items) (made-none c.args.script.now.header.recorders c.args.driver.now)

pub loop-recorder-preserved : goal.loop-recorder-preserved
loop-recorder-preserved g c =
    let formats = c.as_slice-formats.ensures.value ∙ ap (λ (h : Header). h.recorders) c.header-header.ensures.value in
    let there = subst (λ (fs : List Format). c.loop-recorder.recorder < length fs) formats c.loop-recorder-test.true in
    let end = end-is c.args.script.now.header.recorders _ _ _ c.args.driver.now c.loop-recorder.driver c.loop-recorder.recorder c.loop-recorder.made.items c.requires.rings c.loop-recorder.invariant there c.consumer.result c.in-Some.consumer c.consumer.ensures.end c.in-Some.is in
    let one = c.in_ok-one.one in
    let one_is = c.in_ok-one.ensures in
    let more = made-more c.args.script.now.header.recorders c.args.driver.now c.loop-recorder.driver c.consumer.new.self c.loop-recorder.recorder c.loop-recorder.made.items one c.loop-recorder.invariant there
    (ap (λ (r : Recording). r.format) one_is ∙ ap (λ (fs : List Format). get_or fs c.loop-recorder.recorder no_format) formats)
    (bare-made one _ _ one_is)
    (over-end c.args.driver.now.rings c.loop-recorder.recorder one _ _ _ c.in-Some.consumer end (ap (λ (r : Recording). r.getting) one_is))
    c.consumer.ensures.after in
    let pushed : c.push.new.self.items ≡ c.loop-recorder.made.items ++ one ∷ [] = c.push.ensures.items ∙ ap (λ (b : Bool). if b then c.loop-recorder.made.items ++ one ∷ [] else c.loop-recorder.made.items) c.if-is_err.ensures.negation in
    subst (λ (made : List Recording). AreMade c.args.script.now.header.recorders c.args.driver.now c.consumer.new.self (c.loop-recorder.recorder + 1) made) (sym pushed) more
