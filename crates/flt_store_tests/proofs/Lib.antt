mod Indices
