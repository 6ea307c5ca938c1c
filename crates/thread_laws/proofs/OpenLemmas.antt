-- A session of threads mode before its first phase, and behind its last.
--     RanPhases-new, AtPhase-new      a new session whose files are begun stands before its first phase
--     Runs-threads      behind its last its lists are lawful, and its overruns and underruns ones that can be
use Rattle.std.proofs.Common.{◌≡◌, ℕ, ◌<◌, List, [], length, All, IsNone, IsSome, sym, ◌∙◌, ap, subst, arith, true≢false}
use Rattle.std.proofs.lemmas.List.Sorted.{IsNonDecreasingBy-short}
use Rattle.std.proofs.lemmas.Option.{none-some}
use Rattle.jack_types.specs.declared.replies.Overrun.{Overrun}
use Rattle.jack_types.specs.declared.replies.Underrun.{Underrun}
use Rattle.driver_words.specs.Rings.{Getting, Sending}
use Rattle.session_model.specs.Disks.{IsBehindRing, IsSerial, Played}
use Rattle.session_model.specs.Explanations.{Given}
use Rattle.session_model.specs.Recorders.{IsAfterSegment, Lost}
use Rattle.session_model.specs.Scripts.{Script, phases}
use Rattle.control_desk.specs.Laws.{OfCallsAccepted}
use Rattle.driver_laws.specs.Drivers.{overruns_on, underruns_on}
use Rattle.driver_laws.specs.Keeping.{HasTape}
use Rattle.driver_laws.specs.Openings.{IsEmptyRing}
use Rattle.driver_laws.proofs.PlaceLemmas.{none_below}
use Rattle.serial_lanes.specs.Laws.{BehindNone}
use Rattle.run_laws.specs.Runs.{AreWithin, AtPhase, HasFiles, RanPhases}
use Rattle.run_laws.specs.Sessions.{IsGiven, Session, course_in}
use Rattle.run_laws.specs.Told.{HasLists, IsNew, Runs}
use Rattle.disk_runs.proofs.NewLemmas.{NewPlayTheirFiles}
use Rattle.serial_laws.specs.Openings.{AreFresh, bare}
use Rattle.serial_laws.specs.Steps.{KeepsOwn}
use Rattle.serial_laws.proofs.EachLemmas.{at-place}
use Rattle.serial_laws.proofs.OpeningLemmas.{IsSettled-new, KeepsAny-bare, NewKeeps, bare_given, met, misses, one, plays}
use Rattle.thread_laws.specs.Rests.{RingsAtRest}
use Rattle.thread_laws.proofs.WholeLemmas.{AtPhase-rest, RestWhereTold}

-- behind all phases overruns and underruns are ones that can be
abbrev pub OverrunsCanBe : Type 0
OverrunsCanBe = (session : Session) (given : Given) → AtPhase session given (length (phases session.script))
    → (recorder : ℕ) → recorder < length session.script.header.recorders → Lost (course_in given session) (overruns_on session.driver.overruns recorder) recorder

abbrev pub UnderrunsCanBe : Type 0
UnderrunsCanBe = (session : Session) (given : Given) → AtPhase session given (length (phases session.script))
    → (disk : ℕ) → disk < length session.script.header.disks → (IsNone session.script.header.threads → IsSerial (course_in given session) disk) → Played (course_in given session) disk

module _ (session : Session) (new : IsNew (bare session)) where
  no-numbers : session.driver.numbers ≡ []
  no-numbers = new.new_driver.numbers

  -- no phase was begun
  pub RanPhases-new : BehindNone → RanPhases session 0
  RanPhases-new none =
      let behind = none session.script session.desk.publishing session.desk new.new_desk in
      record {
        one = one session new;
        phase = behind.phase;
        used = behind.used;
        cycles = ap length no-numbers;
        met = met session new;
        rising = IsNonDecreasingBy-short (λ (n : ℕ). n) session.driver.numbers (let none : length session.driver.numbers ≡ 0 = ap length no-numbers in omega (arith, none));
        within = subst (AreWithin session.script session.desk.history) (sym no-numbers) (λ k number turn here there. absurd (none-some number here));
        misses = misses session new;
      }

  -- each ring is empty, and both ends know it
  pub RingsAtRest-new : (given : Given) → AreFresh session → RingsAtRest given session
  RingsAtRest-new given fresh recorder ring got here there =
      let empty : IsEmptyRing session.script.header.ring ring = at-place (IsEmptyRing session.script.header.ring) session.driver.rings recorder ring new.new_driver.rings here in
      let none_got : got.got ≡ [] = at-place (λ (g : Getting). g.got ≡ []) session.getting recorder got new.no_gets there in
      record {
        all_got = none_got ∙ sym empty.put;
        looks = at-place (λ (r : Sending). r.least ≡ 0) session.driver.rings recorder ring fresh.rings here ∙ sym (ap length empty.put);
        finds = at-place (λ (g : Getting). g.least ≡ 0) session.getting recorder got fresh.getting there ∙ sym (ap length empty.put);
        open_ended = empty.ended;
        behind = λ course over fits. subst (λ (os : List Overrun). All (IsAfterSegment course (overruns_on os recorder) recorder) (overruns_on os recorder)) (sym new.new_driver.overruns) (λ k d h. absurd (none_below h));
      }

  pub AtPhase-new : OfCallsAccepted → BehindNone → RestWhereTold → NewKeeps → NewPlayTheirFiles → (given : Given)
      → HasFiles session → HasTape session.driver.playback [] → AreFresh session → IsGiven session given → AtPhase session given 0
  AtPhase-new of_calls none rests keeps play given files tape fresh is_given =
      let own : KeepsOwn given session = record {
        own = is_given.own;
        keeps = KeepsAny-bare given session.driver (ap length no-numbers) tape (keeps (bare session) given new (bare_given session new given is_given));
      } in
      AtPhase-rest of_calls rests given session 0 (IsSettled-new session new fresh files) (RanPhases-new none) own (RingsAtRest-new given fresh) (plays session new play given is_given)
      (λ disk course over fits. subst (λ (us : List Underrun). All (IsBehindRing course disk) (underruns_on us disk)) (sym new.new_driver.underruns) (λ k d h. absurd (none_below h)))

-- behind the last phase
pub Runs-threads : ((session : Session) → RanPhases session (length (phases session.script)) → HasLists session) → OverrunsCanBe → UnderrunsCanBe
    → (before after : Session) → IsSome before.script.header.threads → after.script ≡ before.script → RanPhases after (length (phases after.script))
    → ((given : Given) → IsGiven before given → AtPhase after given (length (phases after.script))) → Runs before after
Runs-threads lists lost missed before after threads same ran at = record {
  script = same;
  lists = lists after ran;
  at_end = λ given is_given. subst (λ (s : Script). AtPhase after given (length (phases s))) same (at given is_given);
  lost = λ given is_given recorder h. lost after given (at given is_given) recorder (subst (λ (s : Script). recorder < length s.header.recorders) (sym same) h);
  disks = λ given is_given disk h.
      missed after given (at given is_given) disk (subst (λ (s : Script). disk < length s.header.disks) (sym same) h)
      (λ serial. absurd (not_serial (subst (λ (s : Script). IsNone s.header.threads) same serial)));
  serial_history = λ serial. absurd (not_serial serial);
  serial_numbers = λ serial. absurd (not_serial serial);
  serial_overruns = λ serial. absurd (not_serial serial);
  serial_underruns = λ serial. absurd (not_serial serial);
}
  where
    not_serial : IsNone before.script.header.threads → ⊥
    not_serial serial = true≢false (sym threads ∙ serial)
