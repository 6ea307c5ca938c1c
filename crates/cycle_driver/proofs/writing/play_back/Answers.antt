use Rattle.std.proofs.Common.{◌≡◌, ◌+◌, ◌*◌, ◌≤◌, List, ◌++◌, length, ℤ, sym, ◌∙◌, ap, subst}
use Rattle.std.specs.Prelude.{OnErr, OnOk}
use Rattle.session_model.specs.Samples.{bytes_of, width}
use Rattle.wave_laws.proofs.WaveSamples.{length-bytes_of}
use Rattle.driver_words.specs.Tapes.{Gained, HasSamples, HasUnfinished}
use Rattle.cycle_works.proofs.PlaybackLemmas.{length-mixed}
use Rattle.cycle_works.proofs.ResultLemmas.{on-ok}
use Rattle.cycle_driver.proofs.writing.play_back.Goals as goal

pub put-requires-clause-room : goal.put-requires-clause-room
put-requires-clause-room g c = subst (λ n. c.args.file.now.written + n * width c.args.file.now.format.bits ≤ 4294967000) (sym (ap length (c.block.ensures ∙ c.mix.ensures.block) ∙ length-mixed c.args.works.now c.args.mix.now.channels)) c.requires.room

pub returns-clause-samples : goal.returns-clause-samples
returns-clause-samples g c = subst (λ xs. OnOk c.put.result ((before : List ℤ) → HasSamples c.args.file.now before → HasSamples c.put.new.self (before ++ xs))) (c.block.ensures ∙ c.mix.ensures.block) c.put.ensures.samples

pub returns-clause-front : goal.returns-clause-front
returns-clause-front g c = subst (λ xs. OnErr c.put.result ((before : List ℤ) → HasSamples c.args.file.now before → HasUnfinished c.args.file.now.format (before ++ xs) c.put.new.self.bytes)) (c.block.ensures ∙ c.mix.ensures.block) c.put.ensures.front

pub returns-clause-written : goal.returns-clause-written
returns-clause-written g c = on-ok c.put.result (Gained c.args.file.now c.put.new.self (bytes_of c.args.file.now.format.bits c.block.result.now)) (c.put.new.self.written ≡ c.args.file.now.written + c.args.works.now.set * c.args.mix.now.channels * width c.args.file.now.format.bits)
    (λ gained. gained.written ∙ ap (λ n. c.args.file.now.written + n) (length-bytes_of c.args.file.now.format.bits c.block.result.now ∙ ap (λ n. n * width c.args.file.now.format.bits) (ap length (c.block.ensures ∙ c.mix.ensures.block) ∙ length-mixed c.args.works.now c.args.mix.now.channels))) c.put.ensures.gained
