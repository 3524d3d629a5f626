mod BoundLaws
mod EntryWalk
mod EventWalk
mod KeyLaws
