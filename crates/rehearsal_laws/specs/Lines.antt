-- The lines of a rehearsal, part by part.
--     lines_drawn g      all lines, and the generator behind them
--     Adds old g drawn new after      what was drawn stands behind what was there
--     HasCounts lines      how many lines of each sort there are
use Rattle.std.specs.Prelude.{◌≡◌, ℕ, Bool, true, false, List, ◌∷◌, [], ◌++◌, codes, count_by}
use Rattle.jack_types.specs.declared.commands.Command.TheVariants.{Open, Activate, Register, Connect, Start}
use Rattle.jack_types.specs.declared.kinds.Kind.TheVariants.{Tape}
use Rattle.jack_types.specs.declared.ports.PortKind.TheVariants.{Audio}
use Rattle.jack_types.specs.declared.ports.Way.TheVariants.{In}
use Rattle.jack_types.specs.declared.scripts.Body.{Body}
use Rattle.jack_types.specs.declared.scripts.Body.TheVariants.{Do, Run, Lane}
use Rattle.rand_pcg.specs.Lcg.{Lcg}
use Rattle.rehearsal_model.specs.Rehearsals.{Drawn, any_line, chain_line, client_lines, draw, drawn, input_name, lane_lines, output_name}
use Rattle.session_model.specs.Grammar.{is_call, is_segment, opens}

-- what was drawn from a generator on stands behind what was there
pub record Adds {X : Type 0} (old : List X) (g : Lcg) (more : Drawn (List X)) (new : List X) (after : Lcg) : Type 0 where
  pub items : new ≡ old ++ more.0
  pub generator : after ≡ more.1

-- the first client is fed by the capture
abbrev pub capture_line : Body
capture_line = Do (Connect (codes "system:capture_1") (input_name 0))

-- what the playback and the recorder get
abbrev pub end_lines : ℕ → List Body
end_lines last =
    Do (Connect (output_name 31) (codes "system:playback_1")) ∷ Do (Connect (output_name last) (codes "system:playback_2"))
    ∷ Do (Open (codes "tape") (Tape 0)) ∷ Do (Register (codes "tape:i") In Audio) ∷ Do (Activate (codes "tape")) ∷ Do (Connect (output_name 15) (codes "tape:i"))
    ∷ Do Start ∷ []

-- all lines, in the order in which they are drawn; shut, so that no proof draws them all by mistake
unfoldable pub lines_drawn : Lcg → Drawn (List Body)
lines_drawn g =
    let clients = drawn client_lines 32 0 g in
    let chain = drawn chain_line 31 1 clients.1 in
    let others = drawn any_line 32 0 chain.1 in
    let last = draw 32 others.1 in
    let lanes = drawn lane_lines 32 0 last.1 in
    (clients.0 ++ (capture_line ∷ []) ++ chain.0 ++ others.0 ++ end_lines last.0 ++ Run 10000 ∷ lanes.0, lanes.1)

-- a call of lane 0, and one of another lane
abbrev pub is_do : Body → Bool
is_do (Do _) = true
is_do _ = false

abbrev pub is_lane : Body → Bool
is_lane (Lane _ _ _) = true
is_lane _ = false

-- 199 calls of lane 0 and 64 of lane 1, 33 of them open a client, and one segment
pub record HasCounts (lines : List Body) : Type 0 where
  pub dos : count_by is_do lines ≡ 199
  pub lanes : count_by is_lane lines ≡ 64
  pub calls : count_by is_call lines ≡ 263
  pub opened : count_by opens lines ≡ 33
  pub segments : count_by is_segment lines ≡ 1
