-- Linearizability (Herlihy and Wing 1990), of calls on one map. A history is a list of invocations and responses in real time. A client may
-- have several calls open, so each call is a process of its own.
use Rattle.std.specs.Prelude.{◌≡◌, ℕ, ◌<◌, List, [], ◌∷◌, take, slice_get, Option, Some}
use Rattle.cx_letter.specs.Prelude.{Op, Pair, Reply, Token, map_after, reply_of, text_at}
use Rattle.cx_model.specs.Member.{Member}

-- what a call asks: a put, an append or a removal, or the text of a key
pub data Operation : Type 0 where
  Update : Op → Operation
  Get : List ℕ → Operation

-- its response: the reply to a command, or the text of the key, where it has one
pub data Response : Type 0 where
  Replied : Reply → Response
  Found : Option (List ℕ) → Response

-- a call, named by its client and the client's number for it, and what it asks
pub record ClientCall : Type 0 where
  pub token : Token
  pub operation : Operation

-- what a history has: a call is invoked, or its client gets a response
pub data CallEvent : Type 0 where
  Invoke : ClientCall → CallEvent
  Respond : Token → Response → CallEvent

-- the sequential map: what an operation leaves of it, and what it is answered
abbrev pub left_by : List Pair → Operation → List Pair
left_by map (Update op) = map_after map op
left_by map (Get key) = map

abbrev pub response_by : List Pair → Operation → Response
response_by map (Update op) = Replied (reply_of map op)
response_by map (Get key) = Found (text_at key map)

-- the map after calls, one after another
abbrev pub left_by_all : List Pair → List ClientCall → List Pair
left_by_all map [] = map
left_by_all map (x ∷ calls) = left_by_all (left_by map x.operation) calls

-- The calls stand in an order in which they could have been made one after another.
pub record IsLinearization (history : List CallEvent) (order : List ClientCall) : Type 0 where
  -- Each call of the order was invoked, and stands there once.
  pub invoked : (n : ℕ) (x : ClientCall) → slice_get order n ≡ Some x → Member (Invoke x) history
  pub once : (m n : ℕ) (x y : ClientCall) → slice_get order m ≡ Some x → slice_get order n ≡ Some y → x.token ≡ y.token → m ≡ n
  -- Each call with a response has its place, where the map that was empty at first answers so.
  pub responses : (t : Token) (r : Response) → Member (Respond t r) history
      → (n : ℕ) × (x : ClientCall) × (slice_get order n ≡ Some x) × (x.token ≡ t)
      × (r ≡ response_by (left_by_all [] (take n order)) x.operation)
  -- One whose response comes before another's invocation stands before it.
  pub real_time : (i j m n : ℕ) (x y : ClientCall) (r : Response)
      → slice_get history i ≡ Some (Respond x.token r) → slice_get history j ≡ Some (Invoke y) → i < j
      → slice_get order m ≡ Some x → slice_get order n ≡ Some y → m < n

-- Calls without a response are in the order, completed, or left out.
abbrev pub IsLinearizable : List CallEvent → Type 0
IsLinearizable history = (order : List ClientCall) × IsLinearization history order
