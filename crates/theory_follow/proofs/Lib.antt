mod ChainLines
mod LeftOut
mod PaidApart
mod LiveMaps
mod KeyScripts
mod Taken
mod CollisionVectors
