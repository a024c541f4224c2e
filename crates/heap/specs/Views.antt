-- A heap as contracts see it.
use Rattle.model.specs.States.{HeapState}
use Rattle.model.specs.Holding.{IsHeap}
use Rattle.heap.specs.declared.heap.Heap.TheInside.{Inside}

-- its records as plain data
abbrev pub heap_of : Inside → HeapState
heap_of h = record {
  config = h.config;
  store = h.store;
  starts = h.starts;
  live = h.live;
  mark = h.mark;
  todo = h.todo;
  sides = h.sides;
  threads = h.threads;
  workers = h.workers.items;
  globals = h.globals;
  phase = h.phase;
  nmt = h.nmt;
  births = h.births;
}

-- the invariant of a heap, on that data
abbrev pub IsHeapInside : Inside → Type 0
IsHeapInside h = IsHeap (heap_of h)
