-- Where no read of a disk failed.
--     NoneFailed-read, NoneFailed-told      behind readings, and behind meetings
--     NoneFailed-alone, NoneFailed-new      where the players stay, and in a new session
use Rattle.std.proofs.Common.{◌≡◌, ℕ, false, List, slice_get, sym, ◌∙◌, ap}
use Rattle.driver_words.specs.Rings.{Getting}
use Rattle.disk_player.specs.Playing.{Playing}
use Rattle.disk_player.specs.Turning.{HowEnds, Turns}
use Rattle.disk_player.specs.declared.player.TurnEnd.{TurnEnd}
use Rattle.disk_player.specs.declared.player.TurnEnd.TheVariants.{Put, Full, Ended}
use Rattle.disk_files.specs.Readers.{ReadsAhead, TellsAhead}
use Rattle.run_laws.specs.Sessions.{IsDisk, IsOne, Session}
use Rattle.run_laws.specs.Told.{IsNew}
use Rattle.disk_runs.specs.Readings.{DisksRead, DisksTold, NoneFailed}
use Rattle.disk_runs.proofs.PlaceLemmas.{Stepped, both-of, long, long-after, stepped}

-- however a turn ended, the player is the one behind its puts
same-failed : (most count : ℕ) (passed after : Playing) (turn : TurnEnd) → HowEnds most count passed after turn → after.failed ≡ passed.failed
same-failed most count passed after (Put n) ends = ap (λ (p : Playing). p.failed) ends.3
same-failed most count passed after (Full sent taken) ends = ap (λ (p : Playing). p.failed) ends.4
same-failed most count passed after Ended ends = ap (λ (p : Playing). p.failed) ends.2

going-turned : (most : ℕ) (before after : Playing) (turn : TurnEnd) → Turns most before after turn → after.failed ≡ false
going-turned most before after turn turns = same-failed most turns.count turns.passed after turn turns.ends ∙ turns.puts.ready.going

pub NoneFailed-read : (most : ℕ) (session after : Session) → IsOne session → DisksRead most session after → NoneFailed after
NoneFailed-read most session after one reads disk player here =
    let there : (got : Getting) × IsDisk after disk player got = both-of after (long-after (ReadsAhead most) session after reads (long session one)) disk player here in
    let step : Stepped (ReadsAhead most) session disk player there.0 = stepped (ReadsAhead most) session after reads disk player there.0 there.1 in
    ap (λ (p : Playing). p.failed) step.step.tells.same ∙ going-turned most step.player step.step.turned step.step.turn step.step.turns

pub NoneFailed-told : (session after : Session) → IsOne session → DisksTold session after → NoneFailed session → NoneFailed after
NoneFailed-told session after one tells going disk player here =
    let there : (got : Getting) × IsDisk after disk player got = both-of after (long-after TellsAhead session after tells (long session one)) disk player here in
    let step : Stepped TellsAhead session disk player there.0 = stepped TellsAhead session after tells disk player there.0 there.1 in
    ap (λ (p : Playing). p.failed) step.step.same ∙ going disk step.player step.before.player_is

pub NoneFailed-alone : (session after : Session) → after.players ≡ session.players → NoneFailed session → NoneFailed after
NoneFailed-alone session after players going disk player here = going disk player (ap (λ (ps : List Playing). slice_get ps disk) (sym players) ∙ here)

pub NoneFailed-new : (session : Session) → IsNew session → NoneFailed session
NoneFailed-new session new disk player here = (new.new_players disk player here).failed
