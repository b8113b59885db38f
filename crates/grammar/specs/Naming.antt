-- The table of nodes as a whole: which node names which, and which lies inside which.
use Rattle.std.specs.Prelude.{ℕ, suc, ◌≤◌, ◌<◌, ◌≡◌, List, [], ◌∷◌, ◌++◌, length, get_or}
use Rattle.rules.specs.declared.Node.{Node}

-- node n of the table; what stands past the last has no kind
abbrev pub node_of : List Node → ℕ → Node
node_of xs n = get_or xs n (record { kind = 0; a = 0; b = 0 })

-- a node has two fields
pub data Field : Type 0 where
  first second : Field

-- Field f of node m names node c. The fields that name a child: both of "and", the first of "not", the second of
-- "some".
pub data Names (xs : List Node) (m : ℕ) (f : Field) (c : ℕ) : Type 0 where
  by_and_a : (node_of xs m).kind ≡ 1 → (node_of xs m).a ≡ c → f ≡ first → Names xs m f c
  by_and_b : (node_of xs m).kind ≡ 1 → (node_of xs m).b ≡ c → f ≡ second → Names xs m f c
  by_not : (node_of xs m).kind ≡ 2 → (node_of xs m).a ≡ c → f ≡ first → Names xs m f c
  by_some : (node_of xs m).kind ≡ 3 → (node_of xs m).b ≡ c → f ≡ second → Names xs m f c

-- "named by exactly one field of one later node". Nothing here says that the naming node is later: in a table whose
-- fields are in range (`RightNodes`) it is, since a child is an earlier node.
pub record NamedOnce (xs : List Node) (c : ℕ) : Type 0 where
  pub node : ℕ
  pub field : Field
  pub names : Names xs node field c
  pub only : (m : ℕ) (f : Field) → Names xs m f c → (m ≡ node) × (f ≡ field)

-- "The last node is the root; every other node is named by exactly one field of one later node."
abbrev pub AllNamedOnce : List Node → Type 0
AllNamedOnce xs = (c : ℕ) → suc c < length xs → NamedOnce xs c

-- a path of nodes, each named by the one before it
abbrev pub Path : List Node → List ℕ → Type 0
Path xs [] = Unit {0}
Path xs (m ∷ []) = Unit {0}
Path xs (m ∷ n ∷ ns) = ((f : Field) × Names xs m f n) × Path xs (n ∷ ns)

-- node n lies inside node m: a path leads from m down to n
pub record Inside (xs : List Node) (m n : ℕ) : Type 0 where
  pub between : List ℕ
  pub path : Path xs (m ∷ between ++ (n ∷ []))

-- Exactly one path leads from node m down to node n. In one tree exactly one leads from the root, the last node, to
-- each other node.
pub record OnePath (xs : List Node) (m n : ℕ) : Type 0 where
  pub between : List ℕ
  pub path : Path xs (m ∷ between ++ (n ∷ []))
  pub only : (ns : List ℕ) → Path xs (m ∷ ns ++ (n ∷ [])) → ns ≡ between

-- node n is a "some"; it binds the variable v
abbrev pub IsSome : List Node → ℕ → Type 0
IsSome xs n = (node_of xs n).kind ≡ 3

abbrev pub Binds : List Node → ℕ → ℕ → Type 0
Binds xs n v = IsSome xs n × ((node_of xs n).a ≡ v)

-- node n uses the variable v: "has label" in the first field, the kinds 5 to 8 in both
pub data Uses (xs : List Node) (n v : ℕ) : Type 0 where
  in_a : 4 ≤ (node_of xs n).kind → (node_of xs n).kind ≤ 8 → (node_of xs n).a ≡ v → Uses xs n v
  in_b : 5 ≤ (node_of xs n).kind → (node_of xs n).kind ≤ 8 → (node_of xs n).b ≡ v → Uses xs n v

-- "Every variable used stands inside a "some" that binds it"
pub record Bound (xs : List Node) (n v : ℕ) : Type 0 where
  pub binder : ℕ
  pub binds : Binds xs binder v
  pub inside : Inside xs binder n

abbrev pub AllBound : List Node → Type 0
AllBound xs = (n v : ℕ) → Uses xs n v → Bound xs n v

-- "five "some" nodes nested": five that lie one inside another
pub record FiveNested (xs : List Node) : Type 0 where
  pub n1 : ℕ
  pub n2 : ℕ
  pub n3 : ℕ
  pub n4 : ℕ
  pub n5 : ℕ
  pub some1 : IsSome xs n1
  pub some2 : IsSome xs n2
  pub some3 : IsSome xs n3
  pub some4 : IsSome xs n4
  pub some5 : IsSome xs n5
  pub in1 : Inside xs n1 n2
  pub in2 : Inside xs n2 n3
  pub in3 : Inside xs n3 n4
  pub in4 : Inside xs n4 n5
