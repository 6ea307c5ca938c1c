-- A turn of the player, and the meeting behind it.
--     turns-pair, breaks-pair, either-pair      and behind a turn
--     when-ok, when-err      what an answer says that is known
--     reads-ahead, breaks-ahead      both together
--     tells-format, ahead-format, breaks-format      the file's format stays
use Rattle.std.proofs.Common.{◌≡◌, ℕ, true, false, Bool, List, [], ◌∷◌, length, Result, Ok, Err, refl, sym, ◌∙◌, ap, subst}
use Rattle.std.specs.Prelude.{IfOk, OnErr}
use Rattle.session_model.specs.Courses.{DiskFile}
use Rattle.session_model.specs.Disks.{blocks_of}
use Rattle.session_model.specs.Rings.{RingBlock}
use Rattle.driver_words.specs.Rings.{Sending, Getting, IsPair}
use Rattle.disk_player.specs.Files.{HasPut, PlaysFile}
use Rattle.disk_player.specs.Playing.{Playing}
use Rattle.disk_player.specs.Turning.{Breaks, HowEnds, PutsEach, PutsOn, Turns}
use Rattle.disk_player.specs.declared.player.TurnEnd.{TurnEnd}
use Rattle.disk_player.specs.declared.player.TurnEnd.TheVariants.{Put, Full, Ended}
use Rattle.disk_player.proofs.FileLemmas.{broken-put, turned}
use Rattle.disk_files.specs.Readers.{BreaksAhead, ReadsAhead, TellsAhead}

-- one ring
record IsRing (before after : Sending) : Type 0 where
  pub table : after.table ≡ before.table
  pub samples : after.samples ≡ before.samples
  pub most : after.most ≡ before.most

ring-same : (before after : Sending) → after ≡ before → IsRing before after
ring-same before after is = record { table = ap (λ (s : Sending). s.table) is; samples = ap (λ (s : Sending). s.samples) is; most = ap (λ (s : Sending). s.most) is }

ring-on : (a b c : Sending) → IsRing a b → IsRing b c → IsRing a c
ring-on a b c one two = record { table = two.table ∙ one.table; samples = two.samples ∙ one.samples; most = two.most ∙ one.most }

puts-ring : (before after : Sending) (blocks : List RingBlock) → PutsEach before blocks after → IsRing before after
puts-ring before after [] puts = ring-same before after puts
puts-ring before after (block ∷ blocks) puts =
    ring-on before puts.1 after
    (record { table = ap (λ (s : Sending). s.table) puts.2.after_is; samples = ap (λ (s : Sending). s.samples) puts.2.after_is; most = ap (λ (s : Sending). s.most) puts.2.after_is })
    (puts-ring puts.1 after blocks puts.3)

on-ring : (n : ℕ) (before passed : Playing) → PutsOn n before passed → IsRing before.sending passed.sending
on-ring n before passed on = ring-on before.sending on.sent passed.sending (puts-ring before.sending on.sent on.blocks on.puts) (by_end passed.sending.ended refl)
  where
    by_end : (ended : Bool) → passed.sending.ended ≡ ended → IsRing on.sent passed.sending
    by_end false is = ring-same on.sent passed.sending (on.still is)
    by_end true is = record {
      table = ap (λ (s : Sending). s.table) (on.ended is);
      samples = ap (λ (s : Sending). s.samples) (on.ended is);
      most = ap (λ (s : Sending). s.most) (on.ended is);
    }

how-ring : (most count : ℕ) (passed after : Playing) (turn : TurnEnd) → HowEnds most count passed after turn → IsRing passed.sending after.sending
how-ring most count passed after (Put n) how = ring-same passed.sending after.sending (ap (λ (p : Playing). p.sending) how.3)
how-ring most count passed after Ended how = ring-same passed.sending after.sending (ap (λ (p : Playing). p.sending) how.2)
how-ring most count passed after (Full sent taken) how = record {
  table = ap (λ (s : Sending). s.table) how.3.after_is;
  samples = ap (λ (s : Sending). s.samples) how.3.after_is;
  most = ap (λ (s : Sending). s.most) how.3.after_is;
}

pair-on : (before after : Sending) (getting : Getting) → IsRing before after → IsPair before getting → IsPair after getting
pair-on before after getting ring pair = record { one = ring.table ∙ pair.one; same_samples = ring.samples ∙ pair.same_samples; same_most = ring.most ∙ pair.same_most }

pub turns-pair : (most : ℕ) (before after : Playing) (turn : TurnEnd) (getting : Getting) → Turns most before after turn → IsPair before.sending getting → IsPair after.sending getting
turns-pair most before after turn getting turns pair =
    pair-on before.sending after.sending getting
    (ring-on before.sending turns.passed.sending after.sending (on-ring turns.count before turns.passed turns.puts) (how-ring most turns.count turns.passed after turn turns.ends)) pair

pub breaks-pair : (most : ℕ) (before after : Playing) (getting : Getting) → Breaks most before after → IsPair before.sending getting → IsPair after.sending getting
breaks-pair most before after getting breaks pair = pair-on before.sending after.sending getting (puts-ring before.sending after.sending breaks.blocks breaks.puts) pair

pub either-pair : {E : Type 0} (result : Result TurnEnd E) (most : ℕ) (before after : Playing) (getting : Getting) → IfOk result (Turns most before after) → OnErr result (Breaks most before after) → IsPair before.sending getting → IsPair after.sending getting
either-pair (Ok turn) most before after getting turns breaks pair = turns-pair most before after turn getting turns pair
either-pair (Err error) most before after getting turns breaks pair = breaks-pair most before after getting breaks pair

pub when-ok : {T E : Type 0} (result : Result T E) (value : T) (P : T → Type 0) → result ≡ Ok value → IfOk result P → P value
when-ok {T} {E} result value P is holds = subst (λ (r : Result T E). IfOk r P) is holds

pub when-err : {T E : Type 0} (result : Result T E) (error : E) (P : Type 0) → result ≡ Err error → OnErr result P → P
when-err {T} {E} result error P is holds = subst (λ (r : Result T E). OnErr r P) is holds

-- ---- the file

-- the ring is as before, but for what its end knows
told : {before : Playing} {got : Getting} {after : Playing} {got_after : Getting} → TellsAhead before got after got_after → after ≡ record before { sending = record before.sending { least = length got.got } }
told {before = before} tells = tells.same ∙ ap (λ (s : Sending). record before { sending = s }) tells.tells.sending_is

pub reads-ahead : (most : ℕ) (before : Playing) (got : Getting) (turned : Playing) (turn : TurnEnd) (after : Playing) (got_after : Getting) → Turns most before turned turn → TellsAhead turned got after got_after → ReadsAhead most before got after got_after
reads-ahead most before got behind turn after got_after turns tells = record {
  turn = turn;
  turned = behind;
  turns = turns;
  tells = tells;
  plays = λ file period plays. (both file period plays).0;
  ends = λ file period plays. (both file period plays).1;
}
  where
    both : (file : DiskFile) (period : ℕ) → PlaysFile file period before → PlaysFile file period after × (length after.sending.put ≡ blocks_of file period → after.sending.ended ≡ true)
    both file period plays =
        let there : PlaysFile file period behind × (length behind.sending.put ≡ blocks_of file period → behind.sending.ended ≡ true) = turned file period before plays turns.passed turns.count turns.puts most behind turn turns.ends in
        subst (λ (p : Playing). PlaysFile file period p × (length p.sending.put ≡ blocks_of file period → p.sending.ended ≡ true)) (sym (told tells)) (
          record {
            read = there.0.read;
            size = there.0.size;
            some = there.0.some;
            blocks = there.0.blocks;
            within = there.0.within;
            left = there.0.left;
            over = there.0.over;
            ended = there.0.ended;
          },
          there.1,
        )

pub breaks-ahead : (most : ℕ) (before : Playing) (got : Getting) (broken after : Playing) (got_after : Getting) → Breaks most before broken → TellsAhead broken got after got_after → BreaksAhead most before got after got_after
breaks-ahead most before got broken after got_after breaks tells = record {
  turned = broken;
  breaks = breaks;
  tells = tells;
  has_put = λ file period plays.
      let there : HasPut file period broken.sending = broken-put file period before plays most broken breaks in
      subst (λ (p : Playing). HasPut file period p.sending) (sym (told tells)) record { blocks = there.blocks; within = there.within; whole = there.whole };
}

-- ---- the format

pub tells-format : (before after : Playing) (got got_after : Getting) → TellsAhead before got after got_after → after.format ≡ before.format
tells-format before after got got_after tells = ap (λ (p : Playing). p.format) tells.same

how-format : (most count : ℕ) (passed after : Playing) (turn : TurnEnd) → HowEnds most count passed after turn → after.format ≡ passed.format
how-format most count passed after (Put n) how = ap (λ (p : Playing). p.format) how.3
how-format most count passed after Ended how = ap (λ (p : Playing). p.format) how.2
how-format most count passed after (Full sent taken) how = ap (λ (p : Playing). p.format) how.4

pub ahead-format : (most : ℕ) (before after : Playing) (got got_after : Getting) → ReadsAhead most before got after got_after → after.format ≡ before.format
ahead-format most before after got got_after reads =
    tells-format reads.turned after got got_after reads.tells ∙ how-format most reads.turns.count reads.turns.passed reads.turned reads.turn reads.turns.ends ∙ reads.turns.puts.format

pub breaks-format : (most : ℕ) (before after : Playing) (got got_after : Getting) → BreaksAhead most before got after got_after → after.format ≡ before.format
breaks-format most before after got got_after breaks = tells-format breaks.turned after got got_after breaks.tells ∙ breaks.breaks.format
