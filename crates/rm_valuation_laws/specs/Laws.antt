-- The theorems of this crate: each is carried by a public function.
use Rattle.std.specs.Prelude.{map, ◌≡◌, ◌↔◌, ◌⊎◌, ℕ, ◌<◌, ◌≤◌, Bool, ◌==◌, List, [], length, ◌+ℤ◌, ◌≤ℤ◌, ◌<ℤ◌, IsTrue, IsFalse}
use Rattle.rm_sets.specs.Sets.{has, IsIn, IsSet, IsSetBelow, with_one, without}
use Rattle.rm_valuation_laws.specs.Choice.{IsStrict, greedy}
use Rattle.rm_market.specs.Best.{IsChoice, Values, is_better, IsBest, IsValuation, values_of, best_of, swapped, Exchange, SizeExchange}
use Rattle.rm_market.specs.Board.{int_sum, Board, IsBoard, contract_count, is_feasible, worth, node_at, sets_of}
use Rattle.rm_valuation_laws.specs.Scores.{score, place, IsUnimproved, IsOfferAnswer, IsWorthiest, IsBestSoFar}
use Rattle.rm_valuation_laws.specs.Changes.{loss_upto, IsChain, next_step, last_step, IsConcaveBoard, gain, loss, swap_gain, swap_loss, test_at, IsCheaper, IsCheapest, IsJustAbove}
use Rattle.rm_valuation_laws.specs.Order.{is_under, IsParent, IsLeafNode, IsRoot}
use Rattle.rm_market.specs.Tree.{is_inside}
use Rattle.rm_valuation_laws.specs.Offers.{ThreeKinds, IsInside, IsFull, EndsWalk, IsWalkAnswer, AtOneStep}

-- of two feasible sets the better one has the greater score
abbrev pub ScoreDecides : Type 0
ScoreDecides = (v : Values) (S T : List ℕ) → IsTrue (v.feasible S) → IsTrue (v.feasible T) → IsTrue (is_better v S T) ↔ (score v T <ℤ score v S)

-- different feasible sets have different scores
abbrev pub ScoresDiffer : Type 0
ScoresDiffer = (n : ℕ) (v : Values) → IsValuation n v → IsStrict n v.feasible (score v)

-- the score has exchange, as the worth has
abbrev pub ScoresHaveExchange : Type 0
ScoresHaveExchange = (n : ℕ) (v : Values) → IsValuation n v → Exchange n v.feasible (score v)

-- and size exchange
abbrev pub ScoresHaveSizeExchange : Type 0
ScoresHaveSizeExchange = (n : ℕ) (v : Values) → IsValuation n v → SizeExchange n v.feasible (score v)

-- a set is the best subset exactly where no single addition, removal or swap makes it better
abbrev pub BestBySingleChanges : Type 0
BestBySingleChanges = (n : ℕ) (v : Values) (X S : List ℕ) → IsValuation n v → IsSetBelow n X → IsBest v X S ↔ IsUnimproved v X S

-- greedy addition ends in the best subset
abbrev pub GreedyIsBest : Type 0
GreedyIsBest = (n : ℕ) (v : Values) (X : List ℕ) → IsValuation n v → IsSetBelow n X → IsBest v X (greedy v.feasible (score v) X)

-- no other set is the best subset
abbrev pub BestIsOne : Type 0
BestIsOne = (n : ℕ) (v : Values) (X A B : List ℕ) → IsSetBelow n X → IsBest v X A → IsBest v X B → A ≡ B

-- the empty set is the best so far
abbrev pub GreedyStart : Type 0
GreedyStart = (n : ℕ) (v : Values) (X : List ℕ) → IsValuation n v → IsBestSoFar n v X []

-- an addition of greatest worth, of equal worth the first in tie order, leads from the best so far to the best so far, where the worth doesn't fall
abbrev pub GreedyStep : Type 0
GreedyStep = (n : ℕ) (v : Values) (X S : List ℕ) (x : ℕ) → IsValuation n v → IsSetBelow n X → IsBestSoFar n v X S → IsWorthiest v X S x
    → v.worth S ≤ℤ v.worth (with_one S x) → IsBestSoFar n v X (with_one S x)

-- where no contract fits any more, the best so far is the best subset
abbrev pub GreedyFull : Type 0
GreedyFull = (n : ℕ) (v : Values) (X S : List ℕ) → IsValuation n v → IsSetBelow n X → IsBestSoFar n v X S
    → ((y : ℕ) → IsIn y X → ¬ IsIn y S → IsFalse (v.feasible (with_one S y))) → IsBest v X S

-- and also where each contract that fits lowers the worth
abbrev pub GreedyStop : Type 0
GreedyStop = (n : ℕ) (v : Values) (X S : List ℕ) → IsValuation n v → IsSetBelow n X → IsBestSoFar n v X S
    → ((y : ℕ) → IsIn y X → ¬ IsIn y S → IsTrue (v.feasible (with_one S y)) → v.worth (with_one S y) <ℤ v.worth S) → IsBest v X S

-- a function that gives the best subset of each set has the laws of a choice
abbrev pub BestSubsetsAreLawful : Type 0
BestSubsetsAreLawful = (n : ℕ) (v : Values) (chosen : List ℕ → List ℕ) → IsValuation n v → ((X : List ℕ) → IsSetBelow n X → IsBest v X (chosen X))
    → IsChoice n chosen

-- a lawful choice answers one more contract in one of three ways
abbrev pub OfferHasThreeAnswers : Type 0
OfferHasThreeAnswers = (n : ℕ) (chosen : List ℕ → List ℕ) (H : List ℕ) (x : ℕ) → IsChoice n chosen → IsSetBelow n H → x < n → IsFalse (has x H)
    → chosen H ≡ H → ThreeKinds H x (chosen (with_one H x))

-- the best of these three answers is the best subset
abbrev pub OfferAnswerIsBest : Type 0
OfferAnswerIsBest = (n : ℕ) (v : Values) (H : List ℕ) (x : ℕ) (D : List ℕ) → IsValuation n v → IsSetBelow n H → x < n → IsFalse (has x H) → IsBest v H H
    → IsOfferAnswer v H x D → IsBest v (with_one H x) D

-- where a swap is worth no more than the addition, the addition is better
abbrev pub AdditionBeatsSwap : Type 0
AdditionBeatsSwap = (v : Values) (H : List ℕ) (z x : ℕ) → IsSet H → IsIn z H → IsFalse (has x H) → IsIn z v.ties → IsTrue (v.feasible (with_one H x))
    → v.worth (swapped H x z) ≤ℤ v.worth (with_one H x) → IsTrue (is_better v (with_one H x) (swapped H x z))

-- a swap is better than what is held where it is worth more, or as much and comes first in tie order
abbrev pub SwapBeatsHeld : Type 0
SwapBeatsHeld = (v : Values) (H : List ℕ) (z x : ℕ) → IsIn z H → IsFalse (has x H) → IsTrue (v.feasible (swapped H x z))
    → (v.worth H <ℤ v.worth (swapped H x z)) ⊎ ((v.worth (swapped H x z) ≡ v.worth H) × (place v.ties x < place v.ties z))
    → IsTrue (is_better v (swapped H x z) H)

-- and the other way round
abbrev pub HeldBeatsSwap : Type 0
HeldBeatsSwap = (v : Values) (H : List ℕ) (z x : ℕ) → IsIn z H → IsFalse (has x H) → IsTrue (v.feasible H) → (v.worth (swapped H x z) <ℤ v.worth H)
    ⊎ ((v.worth H ≡ v.worth (swapped H x z)) × (place v.ties z < place v.ties x)) → IsTrue (is_better v H (swapped H x z))

-- the worth on nodes that are nested or apart, with steps that never rise, is M-natural concave
abbrev pub LaminarBoardsAreValuations : Type 0
LaminarBoardsAreValuations = (b : Board) → IsConcaveBoard b → IsValuation (length b.leaves) (values_of b)

-- what an addition does to the worth
abbrev pub AdditionChangesWorth : Type 0
AdditionChangesWorth = (b : Board) (S : List ℕ) (x : ℕ) → IsFalse (has x S) → IsTrue (is_feasible b (with_one S x))
    → worth b (with_one S x) ≡ worth b S +ℤ gain b S x

-- what a removal does
abbrev pub RemovalChangesWorth : Type 0
RemovalChangesWorth = (b : Board) (S : List ℕ) (z : ℕ) → IsSet S → IsIn z S → IsTrue (is_feasible b S) → worth b S ≡ worth b (without S z) +ℤ loss b S z

-- what a swap does
abbrev pub SwapChangesWorth : Type 0
SwapChangesWorth = (b : Board) (H : List ℕ) (z x : ℕ) → IsSet H → IsIn z H → IsFalse (has x H) → IsTrue (is_feasible b H)
    → IsTrue (is_feasible b (swapped H x z)) → (worth b (swapped H x z) +ℤ swap_loss b H x z) ≡ (worth b H +ℤ swap_gain b H x z)

-- the gain of a contract is a sum along its chain
abbrev pub GainIsSum : Type 0
GainIsSum = (b : Board) (S : List ℕ) (x : ℕ) (chain : List ℕ) → IsChain b x chain → gain b S x ≡ int_sum (map (λ k. next_step b S (node_at b k)) chain)

-- and so is its loss
abbrev pub LossIsSum : Type 0
LossIsSum = (b : Board) (S : List ℕ) (z : ℕ) (chain : List ℕ) → IsChain b z chain → loss b S z ≡ int_sum (map (λ k. last_step b S (node_at b k)) chain)

-- where no node of a contract is full, it can be added
abbrev pub AdditionFits : Type 0
AdditionFits = (b : Board) (H : List ℕ) (x : ℕ) → IsTrue (is_feasible b H) → IsFalse (has x H)
    → ((k : ℕ) → k < length b.nodes → IsTrue (test_at b k x) → ¬ IsFull b H (node_at b k)) → IsTrue (is_feasible b (with_one H x))

-- where one is full, it can't
abbrev pub FullNodeStopsAddition : Type 0
FullNodeStopsAddition = (b : Board) (H : List ℕ) (x k : ℕ) → IsFalse (has x H) → k < length b.nodes → IsTrue (test_at b k x) → IsFull b H (node_at b k)
    → IsFalse (is_feasible b (with_one H x))

-- where each full node of x has z, x can take the place of z
abbrev pub SwapFits : Type 0
SwapFits = (b : Board) (H : List ℕ) (z x : ℕ) → IsSet H → IsIn z H → IsFalse (has x H) → IsTrue (is_feasible b H)
    → ((k : ℕ) → k < length b.nodes → IsTrue (test_at b k x) → IsFull b H (node_at b k) → IsTrue (test_at b k z)) → IsTrue (is_feasible b (swapped H x z))

-- where one doesn't, it can't
abbrev pub FullNodeStopsSwap : Type 0
FullNodeStopsSwap = (b : Board) (H : List ℕ) (z x k : ℕ) → IsSet H → IsIn z H → IsFalse (has x H) → k < length b.nodes → IsTrue (test_at b k x)
    → IsFalse (test_at b k z) → IsFull b H (node_at b k) → IsFalse (is_feasible b (swapped H x z))

-- an offer displaces no contract outside its innermost full node, or outside its outermost node where none is full
abbrev pub WalkMayEnd : Type 0
WalkMayEnd = (b : Board) (H : List ℕ) (x k : ℕ) (D : List ℕ) → IsConcaveBoard b → IsSetBelow (length b.leaves) H → x < length b.leaves → IsFalse (has x H)
    → IsBest (values_of b) H H → k < length b.nodes → EndsWalk b H x k → IsWalkAnswer b H x k D → IsBest (values_of b) (with_one H x) D

-- two contracts that lie in the node a of the walk and not in its child lie in the same nodes of x
abbrev pub SameNodesAtOneStep : Type 0
SameNodesAtOneStep = (b : Board) (x a z y : ℕ) (child : ℕ → Bool) → ((k : ℕ) → k < length b.nodes → IsTrue (test_at b k x)
    → IsInside (test_at b a) (test_at b k) ⊎ IsInside (test_at b k) child) → IsTrue (test_at b a z) → IsTrue (test_at b a y) → IsFalse (child z)
    → IsFalse (child y) → AtOneStep b x z y

-- of two such contracts the one whose removal loses less is displaced, of equal loss the later in tie order
abbrev pub CheaperIsDisplaced : Type 0
CheaperIsDisplaced = (b : Board) (H : List ℕ) (x z y : ℕ) (D : List ℕ) → IsSet H → IsIn z H → IsIn y H → IsFalse (has x H) → IsIn z b.ties
    → IsTrue (is_feasible b H) → IsTrue (is_feasible b D) → AtOneStep b x z y → (swap_loss b H x z <ℤ swap_loss b H x y)
    ⊎ ((swap_loss b H x z ≡ swap_loss b H x y) × (place b.ties y ≤ place b.ties z)) → IsFalse (is_better (values_of b) (swapped H x z) D)
    → IsFalse (is_better (values_of b) (swapped H x y) D)

-- the cheapest removal at a node is the cheapest of those at its children
abbrev pub CheapestOfChildren : Type 0
CheapestOfChildren = (b : Board) (under : ℕ → ℕ → Bool) (H : List ℕ) (a d z : ℕ) → a < length b.nodes → IsIn z H → IsJustAbove b under a d z
    → ((y : ℕ) → IsIn y H → IsTrue (test_at b a y) → (e : ℕ) × IsJustAbove b under a e y
    × ((w : ℕ) × IsCheapest b under H e w × IsCheaper b under H d z e w)) → IsCheapest b under H a z

-- at a leaf it is the last in tie order
abbrev pub CheapestAtLeaf : Type 0
CheapestAtLeaf = (b : Board) (under : ℕ → ℕ → Bool) (H : List ℕ) (a z : ℕ) → a < length b.nodes → IsIn z H → IsTrue (test_at b a z)
    → ((y k : ℕ) → IsTrue (test_at b a y) → k < length b.nodes → IsTrue (test_at b k y) → under k a ≡ (k == a))
    → ((y : ℕ) → IsIn y H → IsTrue (test_at b a y) → place b.ties y ≤ place b.ties z) → IsCheapest b under H a z

-- it depends on what is held inside the node alone
abbrev pub CheapestDependsInside : Type 0
CheapestDependsInside = (b : Board) (under : ℕ → ℕ → Bool) (H K : List ℕ) (a z : ℕ) → IsSet H → IsSet K
    → ((y : ℕ) → IsTrue (test_at b a y) → has y H ≡ has y K) → ((k : ℕ) → k < length b.nodes → IsTrue (under k a) → IsInside (test_at b k) (test_at b a))
    → IsCheapest b under H a z → IsCheapest b under K a z

-- a contract of a node that some node inside it has lies in a child of it
abbrev pub ChildHasContract : Type 0
ChildHasContract = (b : Board) → IsConcaveBoard b → (a l y : ℕ) → a < length b.nodes → l < length b.nodes → IsTrue (test_at b l y)
    → IsTrue (is_inside (sets_of b) l a) → (e : ℕ) × (e < length b.nodes) × IsParent b e a × IsTrue (test_at b e y)

-- a node is just above each of its children
abbrev pub ParentIsJustAbove : Type 0
ParentIsJustAbove = (b : Board) → IsConcaveBoard b → (a d z : ℕ) → d < length b.nodes → IsParent b d a → IsTrue (test_at b d z)
    → IsJustAbove b (is_under b) a d z

-- nothing but itself is under a leaf
abbrev pub NothingUnderLeaf : Type 0
NothingUnderLeaf = (b : Board) (a k : ℕ) → IsLeafNode b a → k < length b.nodes → is_under b k a ≡ (k == a)

-- a node that is under another one has no contract that the other lacks
abbrev pub UnderIsInside : Type 0
UnderIsInside = (b : Board) (k a : ℕ) → IsTrue (is_under b k a) → IsInside (test_at b k) (test_at b a)

-- each node of x has all of a, or lies inside the child of a that has x
abbrev pub StepOfWalk : Type 0
StepOfWalk = (b : Board) → IsConcaveBoard b → (a c x k : ℕ) → c < length b.nodes → k < length b.nodes → IsParent b c a → IsTrue (test_at b c x)
    → IsTrue (test_at b k x) → IsInside (test_at b a) (test_at b k) ⊎ IsInside (test_at b k) (test_at b c)

-- each node of x has all of its leaf
abbrev pub LeafOfWalk : Type 0
LeafOfWalk = (b : Board) → IsConcaveBoard b → (a x k : ℕ) → a < length b.nodes → k < length b.nodes → IsLeafNode b a → IsTrue (test_at b a x)
    → IsTrue (test_at b k x) → IsInside (test_at b a) (test_at b k)

-- each node of x lies inside its root
abbrev pub RootOfWalk : Type 0
RootOfWalk = (b : Board) → IsConcaveBoard b → (a x k : ℕ) → a < length b.nodes → k < length b.nodes → IsRoot b a → IsTrue (test_at b a x)
    → IsTrue (test_at b k x) → IsInside (test_at b k) (test_at b a)

-- what a swap loses is the loss at the child that has the displaced contract
abbrev pub SwapLosesAtChild : Type 0
SwapLosesAtChild = (b : Board) (H : List ℕ) → IsConcaveBoard b → (a d x z : ℕ) → d < length b.nodes → IsParent b d a → IsTrue (test_at b a x)
    → IsFalse (test_at b d x) → IsTrue (test_at b d z) → swap_loss b H x z ≡ loss_upto b (is_under b) H d z

-- so is the worth on each board of a market
abbrev pub MarketBoardsAreValuations : Type 0
MarketBoardsAreValuations = (doctors : ℕ) (b : Board) → IsBoard doctors b → IsValuation (contract_count b) (values_of b)

-- the plain program over all subsets gives the best subset
abbrev pub BestOfIsBest : Type 0
BestOfIsBest = (n : ℕ) (v : Values) (X : List ℕ) → IsValuation n v → IsSetBelow n X → IsBest v X (best_of v X)

-- on a market's board too
abbrev pub BestOfBoardIsBest : Type 0
BestOfBoardIsBest = (doctors : ℕ) (b : Board) (X : List ℕ) → IsBoard doctors b → IsSetBelow (contract_count b) X
    → IsBest (values_of b) X (best_of (values_of b) X)

-- and nothing else is the best subset
abbrev pub BestOfBoardIsOnly : Type 0
BestOfBoardIsOnly = (doctors : ℕ) (b : Board) (X S : List ℕ) → IsBoard doctors b → IsSetBelow (contract_count b) X → IsBest (values_of b) X S
    → best_of (values_of b) X ≡ S

-- so it is a lawful choice
abbrev pub BestOfBoardIsLawful : Type 0
BestOfBoardIsLawful = (doctors : ℕ) (b : Board) → IsBoard doctors b → IsChoice (contract_count b) (best_of (values_of b))
