-- The nodes and the links of worked plans, and how many links come into each node, with one for its start.
use Rattle.std.proofs.Common.{◌≡◌, ℕ, ◌+◌, List, [], ◌∷◌, ◌++◌, refl, codes, length, map}
use Rattle.std.specs.Fmt.{digits}
use Rattle.cycle_plan.specs.Plans.{links_of, nodes_of}
use Rattle.jack_types.specs.declared.commands.Command.TheVariants.{Deactivate, Disconnect}
use Rattle.jack_types.specs.declared.kinds.Kind.TheVariants.{Mix}
use Rattle.jack_types.specs.declared.ports.Link.{Link}
use Rattle.jack_types.specs.declared.scripts.Body.{Body}
use Rattle.jack_types.specs.declared.scripts.Body.TheVariants.{Do, Run}
use Rattle.session_model.specs.Activation.{incoming}
use Rattle.session_model.specs.Courses.{graph}
use Rattle.session_model.specs.Samples.{below}
use Rattle.session_model.specs.State.{OpenClient, State}
use Rattle.model_rows.specs.Given.{given, header, joins, serial_run, with_ports}

-- the state that the first cycle plays behind these calls
abbrev behind : List Body → State
behind lines = graph (serial_run (given (header 48000 4 1 1 16) (lines ++ Run 1 ∷ []) [])) 1

abbrev names : State → List (List ℕ)
names state = map (λ (client : OpenClient). client.name) (nodes_of state)

abbrev counts : State → List ℕ
counts state = map (λ n. length (incoming (links_of state) n) + 1) (below (length (nodes_of state)))

abbrev link : ℕ → ℕ → Link
link from to = record { from = from; to = to }

-- four clients, opened from the last to the first
abbrev four : List Body
four = with_ports (codes "d") Mix (codes "in" ∷ codes "in2" ∷ []) [] ++ with_ports (codes "c") Mix (codes "in" ∷ []) (codes "out" ∷ [])
    ++ with_ports (codes "b") Mix (codes "in" ∷ []) (codes "out" ∷ []) ++ with_ports (codes "a") Mix [] (codes "out" ∷ codes "out2" ∷ [])

abbrev diamond : List Body
diamond = four ++ joins (codes "a:out") (codes "b:in") ++ joins (codes "a:out") (codes "c:in") ++ joins (codes "b:out") (codes "d:in") ++ joins (codes "c:out") (codes "d:in2")

-- without a connection in the order of opening, with them each behind those that lead to it
apart : names (behind four) ≡ codes "d" ∷ codes "c" ∷ codes "b" ∷ codes "a" ∷ []
unfolding digits
apart = refl

in_order : names (behind diamond) ≡ codes "a" ∷ codes "c" ∷ codes "b" ∷ codes "d" ∷ []
unfolding digits
in_order = refl

links : links_of (behind diamond) ≡ link 0 2 ∷ link 0 1 ∷ link 2 3 ∷ link 1 3 ∷ []
unfolding digits
links = refl

counted : counts (behind diamond) ≡ 1 ∷ 2 ∷ 2 ∷ 3 ∷ []
unfolding digits
counted = refl

counted_apart : counts (behind four) ≡ 1 ∷ 1 ∷ 1 ∷ 1 ∷ []
unfolding digits
counted_apart = refl

counted_less : counts (behind (diamond ++ Do (Disconnect (codes "a:out") (codes "b:in")) ∷ [])) ≡ 1 ∷ 2 ∷ 1 ∷ 3 ∷ []
unfolding digits
counted_less = refl

-- two connections of one pair are one link, in the place of the first that is left
doubled : links_of (behind (diamond ++ joins (codes "a:out2") (codes "b:in"))) ≡ link 0 2 ∷ link 0 1 ∷ link 2 3 ∷ link 1 3 ∷ []
unfolding digits
doubled = refl

counted_doubled : counts (behind (diamond ++ joins (codes "a:out2") (codes "b:in"))) ≡ 1 ∷ 2 ∷ 2 ∷ 3 ∷ []
unfolding digits
counted_doubled = refl

one_left : links_of (behind (diamond ++ joins (codes "a:out2") (codes "b:in") ++ Do (Disconnect (codes "a:out") (codes "b:in")) ∷ [])) ≡ link 0 1 ∷ link 2 3 ∷ link 1 3 ∷ link 0 2 ∷ []
unfolding digits
one_left = refl

-- a loop of two has one link, which turns round where the direct edge goes
abbrev loop : List Body
loop = with_ports (codes "a") Mix (codes "in" ∷ []) (codes "out" ∷ []) ++ with_ports (codes "b") Mix (codes "in" ∷ []) (codes "out" ∷ [])
    ++ joins (codes "a:out") (codes "b:in") ++ joins (codes "b:out") (codes "a:in")

looped : links_of (behind loop) ≡ link 0 1 ∷ []
unfolding digits
looped = refl

turned : names (behind (loop ++ Do (Disconnect (codes "a:out") (codes "b:in")) ∷ [])) ≡ codes "b" ∷ codes "a" ∷ []
unfolding digits
turned = refl

-- a client that is not active is no node
deactivated : names (behind (loop ++ Do (Deactivate (codes "a")) ∷ [])) ≡ codes "b" ∷ []
unfolding digits
deactivated = refl
