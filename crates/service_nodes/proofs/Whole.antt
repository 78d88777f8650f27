-- The whole graph.
use Rattle.std.proofs.Common.{◌≡◌, ◌∙◌, ℕ, ◌<◌, ◌≤◌, ◌^◌, List, [], ◌∷◌, ◌++◌, length, get_or, map, All, Bool, true, Option, Some, nat_lt, nat_le, ◌&&◌, refl, sym, ap, subst, arith}
use Rattle.std.specs.Prelude.{slice_get}
use Rattle.std.specs.List.{AllZip, list_all}
use Rattle.std.proofs.lemmas.Bool.{le-leb, ltb-true}
use Rattle.std.proofs.lemmas.List.{length-map}
use Rattle.std.proofs.lemmas.Option.{slice_get_within, get_or_from_slice_get}
use Rattle.std.proofs.lemmas.Slice.Zip.{AllZip-long}
use Rattle.reference_graph.specs.Links.{Links, AreWithin}
use Rattle.reference_graph.specs.Heights.{Heights, is_sound}
use Rattle.reference_graph.specs.Numbering.{IsNumbering, AreNext, AreNumbers, AreOfSound, AreLayered, number_of, number_in}
use Rattle.reference_graph.proofs.HeightLemmas.{and_first}
use Rattle.service_faults.proofs.JudgingLemmas.{links_within, links_long, of_each}
use Rattle.service_faults.specs.Faults.{IsPlain}
use Rattle.service_faults.specs.Judgements.{IsJudgement, is_sound_service}
use Rattle.service_faults.specs.References.{ServiceEntry, is_entry, written, places_of, links_of}
use Rattle.service_faults.specs.declared.judgement.Judgement.{Judgement}
use Rattle.service_nodes.specs.Graphs.{IsGraph}
use Rattle.service_nodes.specs.Lawful.{is_lawful, is_lawful_kind}
use Rattle.service_nodes.specs.Nodes.{IsNodeAt, children_of, number_behind}
use Rattle.service_nodes.specs.Ready.{AreNumbered, IsReady}
use Rattle.service_nodes.specs.declared.graph.Graph.{Graph}
use Rattle.service_nodes.specs.declared.node.Node.{Node}
use Rattle.service_nodes.proofs.Making.{places_long}
use Rattle.service_nodes.proofs.Numbered.{behind_same, lower_at, each_at}
use Rattle.service_nodes.proofs.Limits.{both_true, written_few, kind_fits, children_lower, zip_at}

next_same : (links : Links) (p q : ℕ → Bool) (done order : List ℕ) → ((k : ℕ) → p k ≡ q k) → AreNext links p done order → AreNext links q done order
next_same links p q done [] same are = tt
next_same links p q done (at ∷ order) same are = (
  record {
    first = are.0.first;
    is_sound_one = sym (same are.0.first) ∙ are.0.is_sound_one;
    has_none = are.0.has_none;
    is_first = λ k l s. are.0.is_first k l (same k ∙ s);
    between = are.0.between;
    down = are.0.down;
  },
  next_same links p q (done ++ at ∷ []) order same are.1,
)

numbering_same : (links : Links) (p q : ℕ → Bool) (order : List ℕ) → ((k : ℕ) → p k ≡ q k) → IsNumbering links p order → IsNumbering links q order
numbering_same links p q order same is = record {
  next = next_same links p q [] order same is.next;
  all = λ at l s. is.all at l (same at ∙ s);
}

map_same : {X Y : Type 0} (f g : X → Y) (xs : List X) → ((x : X) → f x ≡ g x) → map f xs ≡ map g xs
map_same f g [] same = refl
map_same {X} {Y} f g (x ∷ xs) same = ap (λ (y : Y). y ∷ map f xs) (same x) ∙ ap (λ (ys : List Y). g x ∷ ys) (map_same f g xs same)

node_same : (services : List ServiceEntry) (f g : ℕ → Option ℕ) (at : ℕ) (node : Node) → ((k : ℕ) → f k ≡ g k) → IsNodeAt services f at node → IsNodeAt services g at node
node_same services f g at node same is = (
  is.0,
  is.1,
  record {
    name = is.2.name;
    kind = is.2.kind;
    children = is.2.children ∙ map_same (number_behind f) (number_behind g) (places_of services is.0) (behind_same f g same);
  },
)

pub zip_same : (services : List ServiceEntry) (f g : ℕ → Option ℕ) (order : List ℕ) (nodes : List Node) → ((k : ℕ) → f k ≡ g k) → AllZip (IsNodeAt services f) order nodes
    → AllZip (IsNodeAt services g) order nodes
zip_same services f g [] [] same all = tt
zip_same services f g [] (m ∷ nodes) same all = absurd all
zip_same services f g (at ∷ order) [] same all = absurd all
zip_same services f g (at ∷ order) (m ∷ nodes) same all = (node_same services f g at m same all.0, zip_same services f g order nodes same all.1)

-- what the numbering of a judgement's slices says
pub numbered_from : (services : List ServiceEntry) (j : Judgement) (places : Links) (heights : Heights) (order : List ℕ) (numbers : List (Option ℕ)) → IsJudgement services j
    → places ≡ j.links.items → heights ≡ j.heights.items → IsNumbering places (is_sound heights) order → AreNumbers order numbers
    → AreOfSound (is_sound heights) numbers → length order ≤ length places → AreNumbered services j order numbers
numbered_from services j places heights order numbers is placed high numbering are of_sound few =
    let e : places ≡ links_of services = placed ∙ is.links_are in
    let P : Heights → Type 0 = λ hs. IsNumbering (links_of services) (is_sound hs) order in
    let Q : Links → Type 0 = λ ls. IsNumbering ls (is_sound heights) order in
    let V : Heights → Type 0 = λ hs. AreOfSound (is_sound hs) numbers in
    record {
      numbered = subst P high (subst Q e numbering);
      are_numbers = are;
      of_sound = subst V high of_sound;
      few = let b = ap length e in let c = links_long services in omega (arith, b, c, few);
    }

-- the same of equal lists
pub numbered_as : (services : List ServiceEntry) (j : Judgement) (order order' : List ℕ) (numbers numbers' : List (Option ℕ)) → order' ≡ order → numbers' ≡ numbers
    → AreNumbered services j order numbers → AreNumbered services j order' numbers'
numbered_as services j order order' numbers numbers' ordered counted numbered =
    let P : List ℕ → Type 0 = λ ns. AreNumbered services j ns numbers' in
    let Q : List (Option ℕ) → Type 0 = λ ns. AreNumbered services j order ns in
    subst P (sym ordered) (subst Q (sym counted) numbered)

pub within_from : (services : List ServiceEntry) (j : Judgement) (places : Links) → IsJudgement services j → places ≡ j.links.items → AreWithin places
within_from services j places is placed = let P : Links → Type 0 = λ ls. AreWithin ls in subst P (sym (placed ∙ is.links_are)) (links_within services)

pub long_from : (services : List ServiceEntry) (j : Judgement) (places : Links) (heights : Heights) → IsJudgement services j → places ≡ j.links.items → heights ≡ j.heights.items
    → length heights ≡ length places
long_from services j places heights is placed high = ap length high ∙ is.long ∙ sym (ap length (placed ∙ is.links_are) ∙ links_long services)

pub layered_from : (services : List ServiceEntry) (j : Judgement) (places : Links) (heights : Heights) → IsJudgement services j → places ≡ j.links.items → heights ≡ j.heights.items
    → AreLayered places heights
layered_from services j places heights is placed high =
    let P : Heights → Type 0 = λ hs. AreLayered places hs in
    let Q : Links → Type 0 = λ ls. AreLayered ls j.heights.items in
    subst P (sym high) (subst Q (sym (placed ∙ is.links_are)) is.layered)

-- a node is within the limits of its kind, and leads to lower numbers alone
pub node_lawful : (services : List ServiceEntry) (j : Judgement) (order : List ℕ) (numbers : List (Option ℕ)) (nodes : List Node) → list_all is_entry services ≡ true
    → IsJudgement services j → AreNumbered services j order numbers → All (IsReady services numbers) order → AllZip (IsNodeAt services (number_in numbers)) order nodes
    → (n : ℕ) (node : Node) → slice_get nodes n ≡ Some node → is_lawful n node ≡ true
node_lawful services j order numbers nodes in_range judged numbered ready all n node here =
    let ln : n < length nodes = slice_get_within nodes n node here in
    let long : length nodes ≡ length order = AllZip-long (IsNodeAt services (number_in numbers)) order nodes all in
    let l : n < length order = omega (arith, ln, long) in
    let is = zip_at (IsNodeAt services (number_in numbers)) order nodes n 0 node all here in
    let made = is.2 in
    let r = ready n 0 l in
    let P : ServiceEntry → Type 0 = λ e. IsPlain e in
    let own : IsPlain is.0 = subst P (some_entry r.entry is.0 (sym r.here ∙ is.1)) r.plain in
    let inside : get_or order n 0 < length services = slice_get_within services (get_or order n 0) is.0 is.1 in
    let ranged : is_entry is.0 ≡ true =
    of_each is_entry services (get_or order n 0) is.0 in_range inside (sym (get_or_from_slice_get services (get_or order n 0) is.0 is.0 is.1)) in
    let count : length (children_of node.kind) ≡ length (written is.0.def) =
    sym (length-map (children_of node.kind) Some) ∙ ap length made.children ∙ length-map (places_of services is.0) (number_behind (number_in numbers))
    ∙ places_long services is.0 (places_of services is.0) refl in
    let few = written_few is.0.def own in
    both_true (list_all (λ child. nat_lt child n) (children_of node.kind) && nat_le (length (children_of node.kind)) 64) (is_lawful_kind node.kind)
    (both_true (list_all (λ child. nat_lt child n) (children_of node.kind)) (nat_le (length (children_of node.kind)) 64)
    (children_lower (number_behind (number_in numbers)) n (places_of services is.0) (children_of node.kind) made.children
    (lower_at services j order numbers judged numbered n 0 is.0 l is.1))
    (le-leb (length (children_of node.kind)) 64 (omega (arith, few, count))))
    (kind_fits is.0.def node.kind own ranged made.kind count)
  where
    some_entry : (a b : ServiceEntry) → Some a ≡ Some b → a ≡ b
    some_entry a b e = cc

pub nodes_few : (services : List ServiceEntry) (j : Judgement) (order : List ℕ) (numbers : List (Option ℕ)) (nodes : List Node) → length services < 2 ^ 32
    → AreNumbered services j order numbers → AllZip (IsNodeAt services (number_in numbers)) order nodes → length nodes < 2 ^ 32
nodes_few services j order numbers nodes low numbered all =
    let long : length nodes ≡ length order = AllZip-long (IsNodeAt services (number_in numbers)) order nodes all in
    let few = numbered.few in
    omega (arith, long, few, low)

pub graph_whole : (services : List ServiceEntry) (j : Judgement) (order : List ℕ) (numbers : List (Option ℕ)) (graph : Graph) → IsJudgement services j
    → AreNumbered services j order numbers → AllZip (IsNodeAt services (number_in numbers)) order graph.nodes → graph.faults ≡ j.faults → IsGraph services graph
graph_whole services j order numbers graph is numbered all faults = record {
  judged = is.judged;
  are_judged = is.are_judged;
  faults_are = faults ∙ is.faults_are;
  nodes_are = record {
    order = order;
    numbered = numbering_same (links_of services) (is_sound j.heights.items) (is_sound_service services is.judged) order is.sound numbered.numbered;
    nodes_are = zip_same services (number_in numbers) (number_of order) order graph.nodes numbered.are_numbers all;
  };
}

-- a node leads to lower numbers alone
pub children_below : (graph : Graph) (n : ℕ) (node : Node) → slice_get graph.nodes n ≡ Some node → All (λ child. child < n) (children_of node.kind)
children_below graph n node here =
    let both = and_first (list_all (λ child. nat_lt child n) (children_of node.kind) && nat_le (length (children_of node.kind)) 64) (is_lawful_kind node.kind) (graph.lawful n node here) in
    let all = and_first (list_all (λ child. nat_lt child n) (children_of node.kind)) (nat_le (length (children_of node.kind)) 64) both in
    λ k d l. ltb-true (get_or (children_of node.kind) k d) n (each_at (λ child. nat_lt child n) (children_of node.kind) k d all l)
