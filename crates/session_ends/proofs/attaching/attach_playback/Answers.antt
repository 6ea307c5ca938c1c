use Rattle.std.proofs.Common.{IfSome, ap, refl, subst, ◌∙◌}
use Rattle.driver_words.specs.Tapes.{IsCut}
use Rattle.session_works.specs.Drivers.{playback_format}
use Rattle.recorder_files.specs.Recorders.{Stored}
use Rattle.session_works.specs.Parts.{Parts}
use Rattle.session_ends.proofs.AttachLemmas.{playback-back, playback-put}
use Rattle.session_ends.proofs.attaching.attach_playback.Goals as goal

pub returns-in-Ok-clause-started : goal.returns-in-Ok-clause-started
returns-in-Ok-clause-started g c =
    let put = c.in-Ok.ensures.attached in
    let told = c.in-Ok.ensures.store put.0 put.1 in
    λ truth. (
      put.0,
      record { begun = record { format_is = put.3 ∙ ap (λ (p : Parts). playback_format p.gear.script) c.parts.view_is; samples = put.2; written = put.4 }; name = told.0; tells = told.1; faults = told.2 },
      playback-put _ _ c.args.parts.now c.attach.new.self put.0 c.parts.view_is refl c.attach.ensures.same put.1,
    )

pub returns-in-Err-clause-kept : goal.returns-in-Err-clause-kept
returns-in-Err-clause-kept g c =
    let back : Stored = record { name = g.W.Store.name c.in-Err.store; bytes = g.W.Store.content c.in-Err.store; faults = g.W.Store.faults c.in-Err.store } in
    let start = c.in-Err.ensures in
    λ truth. (
      back,
      record { name = start.back.0; tells = start.back.1; faults = start.cause.0; rose = start.cause.1; cut = subst (λ (p : Parts). IfSome back.bytes (IsCut (playback_format p.gear.script))) c.parts.view_is start.front },
      playback-back _ _ c.args.parts.now c.attach.new.self back c.parts.view_is c.requires.none refl c.attach.ensures.same start.none,
    )
