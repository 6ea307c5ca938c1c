use Rattle.std.proofs.Common.{◌≤◌, ℕ, List, ap, inl, inr, length, refl, string_bytes, subst, take}
use Rattle.std.specs.Prelude.{OnOk}
use Rattle.jack_host.specs.Bytes.{Gains}
use Rattle.session_graph.proofs.FileLemmas.{err}
use Rattle.session_graph.proofs.TopLemmas.{at-err, complete-fault, exact-fault, exact-shown, has-fault, no-read, only-write, own-write, put-cut, put-done, put-shown, read-at}
use Rattle.session_graph.proofs.top.graph.Goals as goal

pub returns-in-Ok-clause-shown : goal.returns-in-Ok-clause-shown
returns-in-Ok-clause-shown g c =
    put-shown c.put_text.result _ _ (g.K.Sink.content c.args.out.now) (g.K.Sink.content c.put_text.new.out) _ (string_bytes c.in-Ok.text) c.in-Some.ensures.lawful c.in-Ok.ensures.shown
    (subst (λ (t : List ℕ). OnOk c.put_text.result (Gains (g.K.Sink.content c.args.out.now) (g.K.Sink.content c.put_text.new.out) t)) c.as_str.ensures.value c.put_text.ensures.put)

pub returns-in-Ok-clause-fault : goal.returns-in-Ok-clause-fault
returns-in-Ok-clause-fault g c = only-write c.put_text.result _ c.put_text.ensures.fault

pub returns-in-Ok-clause-read : goal.returns-in-Ok-clause-read
returns-in-Ok-clause-read g c = λ e. absurd (no-read c.put_text.result c.put_text.ensures.fault e)

pub returns-in-Ok-clause-cut : goal.returns-in-Ok-clause-cut
returns-in-Ok-clause-cut g c = λ e.
    put-cut _ _ (g.K.Sink.content c.args.out.now) (g.K.Sink.content c.put_text.new.out) _ (string_bytes c.in-Ok.text) c.in-Some.ensures.lawful c.in-Ok.ensures.shown
    (subst (λ (t : List ℕ). (k : ℕ) × (k ≤ length t) × Gains (g.K.Sink.content c.args.out.now) (g.K.Sink.content c.put_text.new.out) (take k t)) c.as_str.ensures.value
    (at-err c.put_text.result _ _ c.put_text.ensures.cut e))

pub returns-in-Ok-clause-line : goal.returns-in-Ok-clause-line
returns-in-Ok-clause-line g c = only-write c.put_text.result _ c.put_text.ensures.fault

pub returns-in-Err-clause-fault : goal.returns-in-Err-clause-fault
returns-in-Err-clause-fault g c = λ other. has-fault _ _ _ _ c.in-Some.ensures.lawful c.in-Err.ensures.fault

pub returns-in_default-clause-fault : goal.returns-in_default-clause-fault
returns-in_default-clause-fault g c = λ other. inr (refl, c.in_default.ensures.unlawful refl)

pub returns-in-Ok-clause-own : goal.returns-in-Ok-clause-own
returns-in-Ok-clause-own g c = own-write c.put_text.result c.put_text.ensures.fault

pub returns-in-Ok-clause-words : goal.returns-in-Ok-clause-words
returns-in-Ok-clause-words g c = λ none. absurd (none _ c.in-Some.ensures.lawful)

pub returns-in-Ok-clause-uncalled : goal.returns-in-Ok-clause-uncalled
returns-in-Ok-clause-uncalled g c = λ none. absurd (none _ c.in-Some.ensures.lawful)

pub returns-in-Ok-clause-exact : goal.returns-in-Ok-clause-exact
returns-in-Ok-clause-exact g c = λ asking is fault refusal unrisen.
    absurd (exact-shown (g.H.Host.files c.args.host.now) _ _ asking c.in-Some.ensures.lawful is fault (string_bytes c.in-Ok.text) c.in-Ok.ensures.shown refusal)

pub returns-in-Ok-clause-complete : goal.returns-in-Ok-clause-complete
returns-in-Ok-clause-complete g c = λ asking is text shown reads puts. inl (put-done c.put_text.result _ _ c.put_text.ensures.cause puts)

pub returns-in-Err-clause-read : goal.returns-in-Err-clause-read
returns-in-Err-clause-read g c = read-at (g.H.Host.files c.args.host.now) _ _ c.in-Err.fault _ _ c.in-Some.ensures.lawful c.in-Err.ensures.read

pub returns-in-Err-clause-words : goal.returns-in-Err-clause-words
returns-in-Err-clause-words g c = λ none. absurd (none _ c.in-Some.ensures.lawful)

pub returns-in-Err-clause-uncalled : goal.returns-in-Err-clause-uncalled
returns-in-Err-clause-uncalled g c = λ none. absurd (none _ c.in-Some.ensures.lawful)

pub returns-in-Err-clause-reads : goal.returns-in-Err-clause-reads
returns-in-Err-clause-reads g c = λ other. c.in-Err.ensures.kept_err (λ is. other (ap (err _) is))

pub returns-in-Err-clause-exact : goal.returns-in-Err-clause-exact
returns-in-Err-clause-exact g c = λ asking is fault refusal unrisen.
    exact-fault (g.H.Host.files c.args.host.now) _ _ asking c.in-Some.ensures.lawful is c.in-Err.fault _ _ c.in-Err.ensures.fault c.in-Err.ensures.read unrisen fault refusal

pub returns-in-Err-clause-complete : goal.returns-in-Err-clause-complete
returns-in-Err-clause-complete g c = λ asking is text shown reads puts.
    inr (complete-fault (g.H.Host.files c.args.host.now) _ _ asking c.in-Some.ensures.lawful is c.in-Err.fault _ _ c.in-Err.ensures.fault c.in-Err.ensures.read reads text shown)

pub returns-in_default-clause-exact : goal.returns-in_default-clause-exact
returns-in_default-clause-exact g c = λ asking is. absurd (c.in_default.ensures.unlawful refl asking is)

pub returns-in_default-clause-complete : goal.returns-in_default-clause-complete
returns-in_default-clause-complete g c = λ asking is. absurd (c.in_default.ensures.unlawful refl asking is)
