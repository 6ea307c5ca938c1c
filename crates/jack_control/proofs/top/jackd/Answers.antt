use Rattle.std.proofs.Common.{◌≡◌, ◌≢◌, ◌⊎◌, ◌∙◌, ap, Err, inl, inr, map, refl, subst, sym}
use Rattle.check_command.specs.Answers.{CheckStatus, HasCheckRefusal, IsDecided, IsVerdictCut, IsWrongAt}
use Rattle.check_command.specs.Cases.{HasCase, IfCase, LacksCase, OfCase}
use Rattle.check_command.specs.Lines.{IsExplained as HasExplanation}
use Rattle.jack_types.specs.declared.replies.Row.{Row}
use Rattle.play_inputs.specs.declared.status.Status.{Status}
use Rattle.play_inputs.specs.declared.status.Status.TheVariants.{NoMemory, Ok}
use Rattle.play_words.specs.Checks.{Check}
use Rattle.check_model.specs.Checking.{IsFirstWrong}
use Rattle.jack_host.specs.Causes.{Rose}
use Rattle.play_words.specs.Words.{Play}
use Rattle.play_inputs.specs.Answers.{HasInput, HasRefusal, IfInput, IsDoneOrNoMemory, LacksInput, PlayStatus}
use Rattle.jack_control.specs.Plays.{IsExplained, IsOutCut, IsPlayCut, TouchesOnly, made_by}
use Rattle.play_inputs.proofs.ExactLemmas.{complete-err, exact-err}
use Rattle.jack_control.proofs.ExactLemmas.{exact-ok}
use Rattle.play_inputs.proofs.InputLemmas.{rose-later}
use Rattle.jack_control.proofs.RehearsalLemmas.{finished-of}
use Rattle.jack_control.proofs.TopLemmas.{play-not-wrong, rehearsal-not-wrong, wrong-not-words}
use Rattle.jack_control.proofs.top.jackd.Goals as goal

pub returns-in-Ok-clause-played : goal.returns-in-Ok-clause-played
returns-in-Ok-clause-played g c = λ ok play is.
    subst (λ (p : Play). IsExplained (g.H.Host.files c.args.host.now) (g.H.Host.files c.play.new.host) (g.K.Sink.content c.args.out.now) (g.K.Sink.content c.play.new.out) (map g.G.Guest.sound (map g.G.Guest.score c.args.guests.items)) p)
    (c.words_name_one_play.ensures _ c.in-Some-play_names.names play c.in-Some-play_names.ensures.lawful is) c.in-Ok.ensures.played

pub returns-in-Ok-clause-others : goal.returns-in-Ok-clause-others
returns-in-Ok-clause-others g c = λ play is.
    subst (λ (p : Play). TouchesOnly (g.H.Host.files c.args.host.now) (g.H.Host.files c.play.new.host) (made_by p))
    (c.words_name_one_play.ensures _ c.in-Some-play_names.names play c.in-Some-play_names.ensures.lawful is) c.play.ensures.others

pub returns-in-Ok-clause-exact : goal.returns-in-Ok-clause-exact
returns-in-Ok-clause-exact g c = λ play is status h none.
    absurd (exact-ok (g.H.Host.files c.args.host.now) _ _ _ (map g.G.Guest.sound (map g.G.Guest.score c.args.guests.items)) c.in-Some-play_names.names status
    (subst (λ (p : Play). HasRefusal (g.H.Host.files c.args.host.now) (map g.G.Guest.sound (map g.G.Guest.score c.args.guests.items)) p status)
    (sym (c.words_name_one_play.ensures _ c.in-Some-play_names.names play c.in-Some-play_names.ensures.lawful is)) h)
    c.in-Ok.ensures.played)

pub returns-in-Err-clause-fault : goal.returns-in-Err-clause-fault
returns-in-Err-clause-fault g c = λ play is not.
    subst (λ (p : Play). PlayStatus (g.H.Host.files c.args.host.now) (map g.G.Guest.sound (map g.G.Guest.score c.args.guests.items)) p c.in-Err.status)
    (c.words_name_one_play.ensures _ c.in-Some-play_names.names play c.in-Some-play_names.ensures.lawful is) c.in-Err.ensures.fault

pub returns-in-Err-clause-read : goal.returns-in-Err-clause-read
returns-in-Err-clause-read g c = λ e play is.
    subst (λ (p : Play). Rose (g.H.Host.read_faults c.args.host.now) (g.H.Host.read_faults c.play.new.host) ⊎ LacksInput (g.H.Host.files c.args.host.now) (map g.G.Guest.sound (map g.G.Guest.score c.args.guests.items)) p)
    (c.words_name_one_play.ensures _ c.in-Some-play_names.names play c.in-Some-play_names.ensures.lawful is) (c.in-Err.ensures.read (ap Err e))

pub returns-in-Err-clause-input : goal.returns-in-Err-clause-input
returns-in-Err-clause-input g c = λ e play is.
    subst (λ (p : Play). IfInput (g.H.Host.files c.args.host.now) (map g.G.Guest.sound (map g.G.Guest.score c.args.guests.items)) p)
    (c.words_name_one_play.ensures _ c.in-Some-play_names.names play c.in-Some-play_names.ensures.lawful is) (c.in-Err.ensures.input (ap Err e))

pub returns-in-Err-clause-cut : goal.returns-in-Err-clause-cut
returns-in-Err-clause-cut g c = λ when play is.
    subst (λ (p : Play). IsPlayCut (g.H.Host.files c.args.host.now) (g.H.Host.files c.play.new.host) (map g.G.Guest.sound (map g.G.Guest.score c.args.guests.items)) p)
    (c.words_name_one_play.ensures _ c.in-Some-play_names.names play c.in-Some-play_names.ensures.lawful is) (c.in-Err.ensures.cut when)

-- a fault of writing has no line, so the sink stays as the play left it
pub returns-in-Err-clause-out_cut : goal.returns-in-Err-clause-out_cut
returns-in-Err-clause-out_cut g c = λ e play is.
    let cut = c.in-Err.ensures.out_cut (ap Err e) in
    let silent = c.put_line.ensures.silent (inr e) in
    subst (λ (p : Play). IsOutCut (g.H.Host.files c.args.host.now) (g.H.Host.files c.play.new.host) (g.K.Sink.content c.args.out.now) (g.K.Sink.content c.put_line.new.out) (g.K.Sink.faults c.args.out.now) (g.K.Sink.faults c.put_line.new.out) (map g.G.Guest.sound (map g.G.Guest.score c.args.guests.items)) p)
    (c.words_name_one_play.ensures _ c.in-Some-play_names.names play c.in-Some-play_names.ensures.lawful is)
    (subst (λ out. IsOutCut (g.H.Host.files c.args.host.now) (g.H.Host.files c.play.new.host) (g.K.Sink.content c.args.out.now) (g.K.Sink.content out) (g.K.Sink.faults c.args.out.now) (g.K.Sink.faults out) (map g.G.Guest.sound (map g.G.Guest.score c.args.guests.items)) c.in-Some-play_names.names) (sym silent) cut)

pub returns-in-Err-clause-others : goal.returns-in-Err-clause-others
returns-in-Err-clause-others g c = λ play is.
    subst (λ (p : Play). TouchesOnly (g.H.Host.files c.args.host.now) (g.H.Host.files c.play.new.host) (made_by p))
    (c.words_name_one_play.ensures _ c.in-Some-play_names.names play c.in-Some-play_names.ensures.lawful is) c.play.ensures.others

pub returns-in-Err-clause-exact : goal.returns-in-Err-clause-exact
returns-in-Err-clause-exact g c = λ play is status h none.
    exact-err (g.H.Host.files c.args.host.now) (map g.G.Guest.sound (map g.G.Guest.score c.args.guests.items)) c.in-Some-play_names.names status c.in-Err.status
    (Rose (g.H.Host.read_faults c.args.host.now) (g.H.Host.read_faults c.play.new.host))
    (subst (λ (p : Play). HasRefusal (g.H.Host.files c.args.host.now) (map g.G.Guest.sound (map g.G.Guest.score c.args.guests.items)) p status)
    (sym (c.words_name_one_play.ensures _ c.in-Some-play_names.names play c.in-Some-play_names.ensures.lawful is)) h)
    c.in-Err.ensures.fault (λ e. c.in-Err.ensures.read (ap Err e)) (λ e. c.in-Err.ensures.input (ap Err e)) none

pub returns-in-Err-clause-complete : goal.returns-in-Err-clause-complete
returns-in-Err-clause-complete g c = λ play is h no_read no_write no_put.
    complete-err (g.H.Host.files c.args.host.now) (map g.G.Guest.sound (map g.G.Guest.score c.args.guests.items)) c.in-Some-play_names.names c.in-Err.status
    (Rose (g.H.Host.read_faults c.args.host.now) (g.H.Host.read_faults c.play.new.host)) (Rose (g.H.Host.write_faults c.args.host.now) (g.H.Host.write_faults c.play.new.host))
    (Rose (g.K.Sink.faults c.args.out.now) (g.K.Sink.faults c.play.new.out))
    (subst (λ (p : Play). HasInput (g.H.Host.files c.args.host.now) (map g.G.Guest.sound (map g.G.Guest.score c.args.guests.items)) p)
    (sym (c.words_name_one_play.ensures _ c.in-Some-play_names.names play c.in-Some-play_names.ensures.lawful is)) h)
    c.in-Err.ensures.fault (λ e. c.in-Err.ensures.read (ap Err e)) (λ e. c.in-Err.ensures.write (ap Err e)) no_read no_write
    (λ rose. no_put (rose-later (g.K.Sink.faults c.args.out.now) (g.K.Sink.faults c.play.new.out) (g.K.Sink.faults c.put_line.new.out) rose c.put_line.ensures.later))

-- ---- the words are those of no play

pub returns-in_default-play_names-clause-played : goal.returns-in_default-play_names-clause-played
returns-in_default-play_names-clause-played g c = λ ok play is. absurd (c.in_default-play_names.ensures.unlawful refl play is)

pub returns-in_default-play_names-clause-fault : goal.returns-in_default-play_names-clause-fault
returns-in_default-play_names-clause-fault g c = λ play is other. absurd (c.in_default-play_names.ensures.unlawful refl play is)

pub returns-in_default-play_names-clause-read : goal.returns-in_default-play_names-clause-read
returns-in_default-play_names-clause-read g c = λ e play is. absurd (c.in_default-play_names.ensures.unlawful refl play is)

pub returns-in_default-play_names-clause-input : goal.returns-in_default-play_names-clause-input
returns-in_default-play_names-clause-input g c = λ e play is. absurd (c.in_default-play_names.ensures.unlawful refl play is)

pub returns-in_default-play_names-clause-cut : goal.returns-in_default-play_names-clause-cut
returns-in_default-play_names-clause-cut g c = λ when play is. absurd (c.in_default-play_names.ensures.unlawful refl play is)

pub returns-in_default-play_names-clause-out_cut : goal.returns-in_default-play_names-clause-out_cut
returns-in_default-play_names-clause-out_cut g c = λ e play is. absurd (c.in_default-play_names.ensures.unlawful refl play is)

pub returns-in_default-play_names-clause-others : goal.returns-in_default-play_names-clause-others
returns-in_default-play_names-clause-others g c = λ play is. absurd (c.in_default-play_names.ensures.unlawful refl play is)

pub returns-in_default-play_names-clause-exact : goal.returns-in_default-play_names-clause-exact
returns-in_default-play_names-clause-exact g c = λ play is status h none. absurd (c.in_default-play_names.ensures.unlawful refl play is)

pub returns-in_default-play_names-clause-complete : goal.returns-in_default-play_names-clause-complete
returns-in_default-play_names-clause-complete g c = λ play is h no_read no_write no_put. absurd (c.in_default-play_names.ensures.unlawful refl play is)

pub returns-in_default-play_names-clause-words : goal.returns-in_default-play_names-clause-words
returns-in_default-play_names-clause-words g c = λ same command. elim command [ inl named ↦ c.in_default-play_names.ensures.unlawful refl named.0 named.1 | inr other ↦ elim other [ inl named ↦ c.rehearse_named.ensures.words same named.0 named.1 | inr named ↦ c.in_default.ensures.unlawful refl named.0 named.1 ] ]

pub returns-in_default-play_names-clause-lawful : goal.returns-in_default-play_names-clause-lawful
returns-in_default-play_names-clause-lawful g c = λ other. inr (inl (c.rehearse_named.ensures.lawful other))

pub returns-in_default-play_names-clause-rehearsed : goal.returns-in_default-play_names-clause-rehearsed
returns-in_default-play_names-clause-rehearsed g c = c.rehearse_named.ensures.rehearsed

pub returns-in_default-play_names-clause-finished : goal.returns-in_default-play_names-clause-finished
returns-in_default-play_names-clause-finished g c = λ n is none. finished-of n _ _ _ _ c.rehearse_named.result (c.rehearse_named.ensures.rehearsed n is) none

-- ---- the words are those of a play, and so of no rehearsal

pub returns-in-Ok-clause-rehearsed : goal.returns-in-Ok-clause-rehearsed
returns-in-Ok-clause-rehearsed g c = λ n is. absurd (c.words_name_one_command.ensures.apart _ c.in-Some-play_names.names n c.in-Some-play_names.ensures.lawful is)

pub returns-in-Ok-clause-untouched : goal.returns-in-Ok-clause-untouched
returns-in-Ok-clause-untouched g c = λ n is. absurd (c.words_name_one_command.ensures.apart _ c.in-Some-play_names.names n c.in-Some-play_names.ensures.lawful is)

pub returns-in-Ok-clause-finished : goal.returns-in-Ok-clause-finished
returns-in-Ok-clause-finished g c = λ n is none. absurd (c.words_name_one_command.ensures.apart _ c.in-Some-play_names.names n c.in-Some-play_names.ensures.lawful is)

pub returns-in-Ok-clause-lawful : goal.returns-in-Ok-clause-lawful
returns-in-Ok-clause-lawful g c = λ other. inl (c.in-Some-play_names.names, c.in-Some-play_names.ensures.lawful)

pub returns-in-Err-clause-rehearsed : goal.returns-in-Err-clause-rehearsed
returns-in-Err-clause-rehearsed g c = λ n is. absurd (c.words_name_one_command.ensures.apart _ c.in-Some-play_names.names n c.in-Some-play_names.ensures.lawful is)

pub returns-in-Err-clause-untouched : goal.returns-in-Err-clause-untouched
returns-in-Err-clause-untouched g c = λ n is. absurd (c.words_name_one_command.ensures.apart _ c.in-Some-play_names.names n c.in-Some-play_names.ensures.lawful is)

pub returns-in-Err-clause-finished : goal.returns-in-Err-clause-finished
returns-in-Err-clause-finished g c = λ n is none. absurd (c.words_name_one_command.ensures.apart _ c.in-Some-play_names.names n c.in-Some-play_names.ensures.lawful is)

pub returns-in-Err-clause-lawful : goal.returns-in-Err-clause-lawful
returns-in-Err-clause-lawful g c = λ other. inl (c.in-Some-play_names.names, c.in-Some-play_names.ensures.lawful)

-- ---- the words are those of a check, and so of no play and of no rehearsal

pub returns-in-Some-clause-played : goal.returns-in-Some-clause-played
returns-in-Some-clause-played g c = λ ok play is. absurd (c.words_name_one_command.ensures.no_check_of_play _ play c.in-Some.checked is c.in-Some.ensures.lawful)

pub returns-in-Some-clause-fault : goal.returns-in-Some-clause-fault
returns-in-Some-clause-fault g c = λ play is other. absurd (c.words_name_one_command.ensures.no_check_of_play _ play c.in-Some.checked is c.in-Some.ensures.lawful)

pub returns-in-Some-clause-read : goal.returns-in-Some-clause-read
returns-in-Some-clause-read g c = λ e play is. absurd (c.words_name_one_command.ensures.no_check_of_play _ play c.in-Some.checked is c.in-Some.ensures.lawful)

pub returns-in-Some-clause-input : goal.returns-in-Some-clause-input
returns-in-Some-clause-input g c = λ e play is. absurd (c.words_name_one_command.ensures.no_check_of_play _ play c.in-Some.checked is c.in-Some.ensures.lawful)

pub returns-in-Some-clause-cut : goal.returns-in-Some-clause-cut
returns-in-Some-clause-cut g c = λ when play is. absurd (c.words_name_one_command.ensures.no_check_of_play _ play c.in-Some.checked is c.in-Some.ensures.lawful)

pub returns-in-Some-clause-out_cut : goal.returns-in-Some-clause-out_cut
returns-in-Some-clause-out_cut g c = λ e play is. absurd (c.words_name_one_command.ensures.no_check_of_play _ play c.in-Some.checked is c.in-Some.ensures.lawful)

pub returns-in-Some-clause-others : goal.returns-in-Some-clause-others
returns-in-Some-clause-others g c = λ play is. absurd (c.words_name_one_command.ensures.no_check_of_play _ play c.in-Some.checked is c.in-Some.ensures.lawful)

pub returns-in-Some-clause-exact : goal.returns-in-Some-clause-exact
returns-in-Some-clause-exact g c = λ play is status h none. absurd (c.words_name_one_command.ensures.no_check_of_play _ play c.in-Some.checked is c.in-Some.ensures.lawful)

pub returns-in-Some-clause-complete : goal.returns-in-Some-clause-complete
returns-in-Some-clause-complete g c = λ play is h no_read no_write no_put. absurd (c.words_name_one_command.ensures.no_check_of_play _ play c.in-Some.checked is c.in-Some.ensures.lawful)

pub returns-in-Some-clause-rehearsed : goal.returns-in-Some-clause-rehearsed
returns-in-Some-clause-rehearsed g c = λ n is. absurd (c.words_name_one_command.ensures.no_check_of_number _ n c.in-Some.checked is c.in-Some.ensures.lawful)

pub returns-in-Some-clause-untouched : goal.returns-in-Some-clause-untouched
returns-in-Some-clause-untouched g c = λ n is. absurd (c.words_name_one_command.ensures.no_check_of_number _ n c.in-Some.checked is c.in-Some.ensures.lawful)

pub returns-in-Some-clause-finished : goal.returns-in-Some-clause-finished
returns-in-Some-clause-finished g c = λ n is none. absurd (c.words_name_one_command.ensures.no_check_of_number _ n c.in-Some.checked is c.in-Some.ensures.lawful)

pub returns-in-Some-clause-words : goal.returns-in-Some-clause-words
returns-in-Some-clause-words g c = λ same command. absurd (c.check_named.ensures.lawful same)

pub returns-in-Some-clause-uncalled : goal.returns-in-Some-clause-uncalled
returns-in-Some-clause-uncalled g c = λ same. absurd (c.check_named.ensures.lawful same)

pub returns-in-Some-clause-lawful : goal.returns-in-Some-clause-lawful
returns-in-Some-clause-lawful g c = λ other. inr (inr (c.in-Some.checked, c.in-Some.ensures.lawful))

pub returns-in-Some-clause-write : goal.returns-in-Some-clause-write
returns-in-Some-clause-write g c = λ e. inr (c.check_named.ensures.write e).0

pub returns-in-Some-clause-checked : goal.returns-in-Some-clause-checked
returns-in-Some-clause-checked g c = λ ok check is.
    subst (λ (q : Check). IfCase (g.H.Host.files c.args.host.now) (map g.G.Guest.sound (map g.G.Guest.score c.args.guests.items)) q HasExplanation)
    (c.words_name_one_check.ensures _ c.in-Some.checked check c.in-Some.ensures.lawful is) (c.check_named.ensures.explained ok)

pub returns-in-Some-clause-wrong : goal.returns-in-Some-clause-wrong
returns-in-Some-clause-wrong g c = λ row sight e. (c.in-Some.checked, c.in-Some.ensures.lawful, c.check_named.ensures.wrong row sight e)

pub returns-in-Some-clause-decides : goal.returns-in-Some-clause-decides
returns-in-Some-clause-decides g c = λ check is.
    subst (λ (q : Check). OfCase (g.H.Host.files c.args.host.now) (map g.G.Guest.sound (map g.G.Guest.score c.args.guests.items)) q (λ given written. HasExplanation given written → ¬ Rose (g.H.Host.read_faults c.args.host.now) (g.H.Host.read_faults c.check_named.new.host) → ¬ Rose (g.K.Sink.faults c.args.out.now) (g.K.Sink.faults c.check_named.new.out) → IsDoneOrNoMemory c.check_named.result))
    (c.words_name_one_check.ensures _ c.in-Some.checked check c.in-Some.ensures.lawful is) c.check_named.ensures.decides

pub returns-in-Some-clause-names : goal.returns-in-Some-clause-names
returns-in-Some-clause-names g c = λ check is.
    subst (λ (q : Check). OfCase (g.H.Host.files c.args.host.now) (map g.G.Guest.sound (map g.G.Guest.score c.args.guests.items)) q (λ given written. (row : Row) → IsFirstWrong given written row → ¬ Rose (g.H.Host.read_faults c.args.host.now) (g.H.Host.read_faults c.check_named.new.host) → ¬ Rose (g.K.Sink.faults c.args.out.now) (g.K.Sink.faults c.check_named.new.out) → IsWrongAt row c.check_named.result ⊎ (c.check_named.result ≡ NoMemory)))
    (c.words_name_one_check.ensures _ c.in-Some.checked check c.in-Some.ensures.lawful is) c.check_named.ensures.names

pub returns-in-Some-clause-decided : goal.returns-in-Some-clause-decided
returns-in-Some-clause-decided g c = λ check is.
    subst (λ (q : Check). HasCase (g.H.Host.files c.args.host.now) (map g.G.Guest.sound (map g.G.Guest.score c.args.guests.items)) q → ¬ Rose (g.H.Host.read_faults c.args.host.now) (g.H.Host.read_faults c.check_named.new.host) → ¬ Rose (g.K.Sink.faults c.args.out.now) (g.K.Sink.faults c.check_named.new.out) → IsDecided c.check_named.result)
    (c.words_name_one_check.ensures _ c.in-Some.checked check c.in-Some.ensures.lawful is) c.check_named.ensures.decided

pub returns-in-Some-clause-verdict : goal.returns-in-Some-clause-verdict
returns-in-Some-clause-verdict g c = λ check is. c.check_named.ensures.verdict

pub returns-in-Some-clause-unwritten : goal.returns-in-Some-clause-unwritten
returns-in-Some-clause-unwritten g c = λ check is. c.check_named.ensures.unwritten

pub returns-in-Some-clause-check_fault : goal.returns-in-Some-clause-check_fault
returns-in-Some-clause-check_fault g c = λ check is.
    subst (λ (q : Check). c.check_named.result ≢ Ok → CheckStatus (g.H.Host.files c.args.host.now) (map g.G.Guest.sound (map g.G.Guest.score c.args.guests.items)) q c.check_named.result)
    (c.words_name_one_check.ensures _ c.in-Some.checked check c.in-Some.ensures.lawful is) c.check_named.ensures.fault

pub returns-in-Some-clause-check_read : goal.returns-in-Some-clause-check_read
returns-in-Some-clause-check_read g c = λ e check is.
    subst (λ (q : Check). Rose (g.H.Host.read_faults c.args.host.now) (g.H.Host.read_faults c.check_named.new.host) ⊎ LacksCase (g.H.Host.files c.args.host.now) (map g.G.Guest.sound (map g.G.Guest.score c.args.guests.items)) q)
    (c.words_name_one_check.ensures _ c.in-Some.checked check c.in-Some.ensures.lawful is) (c.check_named.ensures.read e)

pub returns-in-Some-clause-check_write : goal.returns-in-Some-clause-check_write
returns-in-Some-clause-check_write g c = λ e check is.
    subst (λ (q : Check). Rose (g.K.Sink.faults c.args.out.now) (g.K.Sink.faults c.check_named.new.out) × IsVerdictCut (g.H.Host.files c.args.host.now) (map g.G.Guest.sound (map g.G.Guest.score c.args.guests.items)) q (g.K.Sink.content c.args.out.now) (g.K.Sink.content c.check_named.new.out))
    (c.words_name_one_check.ensures _ c.in-Some.checked check c.in-Some.ensures.lawful is) (c.check_named.ensures.write e)

pub returns-in-Some-clause-check_exact : goal.returns-in-Some-clause-check_exact
returns-in-Some-clause-check_exact g c = λ check is.
    subst (λ (q : Check). (status : Status) → HasCheckRefusal (g.H.Host.files c.args.host.now) (map g.G.Guest.sound (map g.G.Guest.score c.args.guests.items)) q status → ¬ Rose (g.H.Host.read_faults c.args.host.now) (g.H.Host.read_faults c.check_named.new.host) → (c.check_named.result ≡ status) ⊎ (c.check_named.result ≡ NoMemory))
    (c.words_name_one_check.ensures _ c.in-Some.checked check c.in-Some.ensures.lawful is) c.check_named.ensures.exact

-- ---- the words are those of no check

pub returns-in-Ok-clause-checked : goal.returns-in-Ok-clause-checked
returns-in-Ok-clause-checked g c = λ ok check is. absurd (c.in_default.ensures.unlawful refl check is)

pub returns-in-Ok-clause-decides : goal.returns-in-Ok-clause-decides
returns-in-Ok-clause-decides g c = λ check is. absurd (c.in_default.ensures.unlawful refl check is)

pub returns-in-Ok-clause-names : goal.returns-in-Ok-clause-names
returns-in-Ok-clause-names g c = λ check is. absurd (c.in_default.ensures.unlawful refl check is)

pub returns-in-Ok-clause-decided : goal.returns-in-Ok-clause-decided
returns-in-Ok-clause-decided g c = λ check is. absurd (c.in_default.ensures.unlawful refl check is)

pub returns-in-Ok-clause-verdict : goal.returns-in-Ok-clause-verdict
returns-in-Ok-clause-verdict g c = λ check is. absurd (c.in_default.ensures.unlawful refl check is)

pub returns-in-Ok-clause-unwritten : goal.returns-in-Ok-clause-unwritten
returns-in-Ok-clause-unwritten g c = λ check is. absurd (c.in_default.ensures.unlawful refl check is)

pub returns-in-Ok-clause-check_fault : goal.returns-in-Ok-clause-check_fault
returns-in-Ok-clause-check_fault g c = λ check is. absurd (c.in_default.ensures.unlawful refl check is)

pub returns-in-Ok-clause-check_read : goal.returns-in-Ok-clause-check_read
returns-in-Ok-clause-check_read g c = λ e check is. absurd (c.in_default.ensures.unlawful refl check is)

pub returns-in-Ok-clause-check_write : goal.returns-in-Ok-clause-check_write
returns-in-Ok-clause-check_write g c = λ e check is. absurd (c.in_default.ensures.unlawful refl check is)

pub returns-in-Ok-clause-check_exact : goal.returns-in-Ok-clause-check_exact
returns-in-Ok-clause-check_exact g c = λ check is. absurd (c.in_default.ensures.unlawful refl check is)

pub returns-in-Err-clause-checked : goal.returns-in-Err-clause-checked
returns-in-Err-clause-checked g c = λ ok check is. absurd (c.in_default.ensures.unlawful refl check is)

pub returns-in-Err-clause-decides : goal.returns-in-Err-clause-decides
returns-in-Err-clause-decides g c = λ check is. absurd (c.in_default.ensures.unlawful refl check is)

pub returns-in-Err-clause-names : goal.returns-in-Err-clause-names
returns-in-Err-clause-names g c = λ check is. absurd (c.in_default.ensures.unlawful refl check is)

pub returns-in-Err-clause-decided : goal.returns-in-Err-clause-decided
returns-in-Err-clause-decided g c = λ check is. absurd (c.in_default.ensures.unlawful refl check is)

pub returns-in-Err-clause-verdict : goal.returns-in-Err-clause-verdict
returns-in-Err-clause-verdict g c = λ check is. absurd (c.in_default.ensures.unlawful refl check is)

pub returns-in-Err-clause-unwritten : goal.returns-in-Err-clause-unwritten
returns-in-Err-clause-unwritten g c = λ check is. absurd (c.in_default.ensures.unlawful refl check is)

pub returns-in-Err-clause-check_fault : goal.returns-in-Err-clause-check_fault
returns-in-Err-clause-check_fault g c = λ check is. absurd (c.in_default.ensures.unlawful refl check is)

pub returns-in-Err-clause-check_read : goal.returns-in-Err-clause-check_read
returns-in-Err-clause-check_read g c = λ e check is. absurd (c.in_default.ensures.unlawful refl check is)

pub returns-in-Err-clause-check_write : goal.returns-in-Err-clause-check_write
returns-in-Err-clause-check_write g c = λ e check is. absurd (c.in_default.ensures.unlawful refl check is)

pub returns-in-Err-clause-check_exact : goal.returns-in-Err-clause-check_exact
returns-in-Err-clause-check_exact g c = λ check is. absurd (c.in_default.ensures.unlawful refl check is)

pub returns-in_default-play_names-clause-checked : goal.returns-in_default-play_names-clause-checked
returns-in_default-play_names-clause-checked g c = λ ok check is. absurd (c.in_default.ensures.unlawful refl check is)

pub returns-in_default-play_names-clause-decides : goal.returns-in_default-play_names-clause-decides
returns-in_default-play_names-clause-decides g c = λ check is. absurd (c.in_default.ensures.unlawful refl check is)

pub returns-in_default-play_names-clause-names : goal.returns-in_default-play_names-clause-names
returns-in_default-play_names-clause-names g c = λ check is. absurd (c.in_default.ensures.unlawful refl check is)

pub returns-in_default-play_names-clause-decided : goal.returns-in_default-play_names-clause-decided
returns-in_default-play_names-clause-decided g c = λ check is. absurd (c.in_default.ensures.unlawful refl check is)

pub returns-in_default-play_names-clause-verdict : goal.returns-in_default-play_names-clause-verdict
returns-in_default-play_names-clause-verdict g c = λ check is. absurd (c.in_default.ensures.unlawful refl check is)

pub returns-in_default-play_names-clause-unwritten : goal.returns-in_default-play_names-clause-unwritten
returns-in_default-play_names-clause-unwritten g c = λ check is. absurd (c.in_default.ensures.unlawful refl check is)

pub returns-in_default-play_names-clause-check_fault : goal.returns-in_default-play_names-clause-check_fault
returns-in_default-play_names-clause-check_fault g c = λ check is. absurd (c.in_default.ensures.unlawful refl check is)

pub returns-in_default-play_names-clause-check_read : goal.returns-in_default-play_names-clause-check_read
returns-in_default-play_names-clause-check_read g c = λ e check is. absurd (c.in_default.ensures.unlawful refl check is)

pub returns-in_default-play_names-clause-check_write : goal.returns-in_default-play_names-clause-check_write
returns-in_default-play_names-clause-check_write g c = λ e check is. absurd (c.in_default.ensures.unlawful refl check is)

pub returns-in_default-play_names-clause-check_exact : goal.returns-in_default-play_names-clause-check_exact
returns-in_default-play_names-clause-check_exact g c = λ check is. absurd (c.in_default.ensures.unlawful refl check is)

pub returns-in-Err-clause-wrong : goal.returns-in-Err-clause-wrong
returns-in-Err-clause-wrong g c = λ row sight e. absurd (play-not-wrong (g.H.Host.files c.args.host.now) (map g.G.Guest.sound (map g.G.Guest.score c.args.guests.items)) c.in-Some-play_names.names c.in-Err.status row sight e c.in-Err.ensures.fault)

pub returns-in_default-play_names-clause-wrong : goal.returns-in_default-play_names-clause-wrong
returns-in_default-play_names-clause-wrong g c = λ row sight e.
    let is = c.rehearse_named.ensures.lawful (λ same. wrong-not-words row sight (sym e ∙ same)) in
    absurd (rehearsal-not-wrong is.0 _ _ _ _ c.rehearse_named.result row sight e (c.rehearse_named.ensures.rehearsed is.0 is.1))
